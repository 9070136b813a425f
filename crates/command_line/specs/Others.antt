-- The lines of a source that are at fault behind the first one.
use Rattle.std.specs.Prelude.{◌≡◌, ◌≢◌, ◌⊎◌, ◌<◌, ◌++◌, nat_lt, ℕ, Bool, true, false, List, [], ◌∷◌, Option, Some, None, Result, MatchResult, length}
use Rattle.assemble.specs.declared.TheConstants.{SOURCE_LIMIT}
use Rattle.assemble.specs.declared.fault.AsmFault.{AsmFault}
use Rattle.assemble.specs.AllFaults.{AreFirst, faults_of}
use Rattle.command_line.specs.Kinds.{IsKindTold}
use Rattle.command_line.specs.Meanings.{SaysByRow}
use Rattle.command_line.specs.declared.failure.Failure.{Failure}
use Rattle.command_line.specs.declared.failure.Failure.TheVariants.{Memory}
use Rattle.command_line.specs.declared.failure.Refusal.{Refusal}
use Rattle.command_line.specs.declared.failure.Refusal.TheVariants.{Assembly, RecoverySource}

-- the fault of a source that is refused
abbrev pub source_fault : Refusal → Option AsmFault
source_fault (Assembly fault) = Some fault
source_fault (RecoverySource fault) = Some fault
source_fault refusal = None

-- the refusal of the same source for another fault
abbrev pub with_fault : Refusal → AsmFault → Refusal
with_fault (Assembly first) fault = Assembly fault
with_fault (RecoverySource first) fault = RecoverySource fault
with_fault refusal fault = refusal

-- a fault behind a line is told as if it were the first one
abbrev pub IsToldIf : Bool → Option (List ℕ) → Refusal → List ℕ → List ℕ → Type 0
IsToldIf true name refusal file text = SaysByRow name refusal file text
IsToldIf false name refusal file text = text ≡ []

-- each of these faults that is behind a line, one after the other
pub record TellsNext (told : List ℕ → Type 0) (rest : List ℕ → Type 0) (text : List ℕ) : Type 0 where
  pub first : List ℕ
  pub more : List ℕ
  pub is_first : told first
  pub are_more : rest more
  pub text_is : text ≡ first ++ more

abbrev pub AreBehind : Option (List ℕ) → Refusal → ℕ → List ℕ → List AsmFault → List ℕ → Type 0
AreBehind name refusal line file [] text = text ≡ []
AreBehind name refusal line file (fault ∷ faults) text =
    TellsNext (IsToldIf (nat_lt line fault.line) name (with_fault refusal fault) file) (AreBehind name refusal line file faults) text

-- the first 20 faults of a source are looked at
pub record AreListed (name : Option (List ℕ)) (refusal : Refusal) (first : AsmFault) (file text : List ℕ) : Type 0 where
  pub faults : List AsmFault
  pub are_first : AreFirst 20 (faults_of file) faults
  pub no_kind : IsKindTold name refusal file []
  pub behind : AreBehind name refusal first.line file faults text

-- nothing is told of what isn't refused as a source, of a source past its limit, and of a file in the place of one
pub record IsOfKind (name : Option (List ℕ)) (refusal : Refusal) (file : List ℕ) : Type 0 where
  pub kind : List ℕ
  pub is_kind : IsKindTold name refusal file kind
  pub some : kind ≢ []

abbrev pub AreOthersOf : Option (List ℕ) → Refusal → Option AsmFault → List ℕ → List ℕ → Type 0
AreOthersOf name refusal None file text = text ≡ []
AreOthersOf name refusal (Some first) file text =
    AreListed name refusal first file text ⊎ (((SOURCE_LIMIT < length file) ⊎ IsOfKind name refusal file) × (text ≡ []))

abbrev pub AreOthers : Option (List ℕ) → Refusal → List ℕ → List ℕ → Type 0
AreOthers name refusal file text = AreOthersOf name refusal (source_fault refusal) file text

pub record SaysOthers (name : Option (List ℕ)) (refusal : Refusal) (file : List ℕ) (outcome : Result (List ℕ) Failure) : Type 0 where
  pub says : MatchResult outcome (AreOthers name refusal file) (λ failure. failure ≡ Memory)

pub record SaysBehind (name : Option (List ℕ)) (refusal : Refusal) (line : ℕ) (file : List ℕ) (faults : List AsmFault) (outcome : Result (List ℕ) Failure) : Type 0 where
  pub says : MatchResult outcome (AreBehind name refusal line file faults) (λ failure. failure ≡ Memory)

pub record SaysIf (told : Bool) (name : Option (List ℕ)) (refusal : Refusal) (file : List ℕ) (outcome : Result (List ℕ) Failure) : Type 0 where
  pub says : MatchResult outcome (IsToldIf told name refusal file) (λ failure. failure ≡ Memory)
