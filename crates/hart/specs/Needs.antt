-- What a running hart needs, by the word that it fetches: None where pc is outside the text region.
use Rattle.std.specs.Prelude.{◌≡◌, ◌⊎◌, ℕ, Option, Some, None, Result, IfOk, IfErr}
use Rattle.decode.specs.Decoding.{Decodes}
use Rattle.isa_table.specs.Table.{Spells}
use Rattle.isa_table.specs.declared.instruction.Instr.{Instr}
use Rattle.hart.specs.declared.state.HartState.{HartState}
use Rattle.hart.specs.declared.state.Trap.{Trap}
use Rattle.hart.specs.declared.state.Trap.TheVariants.{NoInstruction, OutsideText}
use Rattle.hart.specs.declared.need.Need.{Need}
use Rattle.hart.specs.declared.need.Need.TheVariants.{Stop}
use Rattle.hart.specs.Effect.{effect}

-- the word that was fetched spells the instruction
abbrev pub IsSpelledBy : Option ℕ → Instr → Type 0
IsSpelledBy None i = ⊥
IsSpelledBy (Some word) i = Spells word i

-- by the instruction that the word spells: its effect, or a trap where there is none
abbrev pub need_of : HartState → Option Instr → Need
need_of s None = Stop NoInstruction
need_of s (Some i) = effect s i

abbrev pub Needs : HartState → Option ℕ → Need → Type 0
Needs s None need = need ≡ Stop OutsideText
Needs s (Some w) need = (spelled : Option Instr) × Decodes w spelled × (need ≡ need_of s spelled)

-- the instruction that the word spells, which says what any hart needs that fetches it, or the trap where there is none
pub record IsInstruction (word : Option ℕ) (instr : Result Instr Trap) : Type 0 where
  pub spelled : IfOk instr (IsSpelledBy word)
  pub needs : IfOk instr (λ i. (s : HartState) → Needs s word (effect s i))
  pub traps : IfErr instr (λ trap. (s : HartState) → Needs s word (Stop trap))
  pub cause : IfErr instr (λ trap. (trap ≡ OutsideText) ⊎ (trap ≡ NoInstruction))
