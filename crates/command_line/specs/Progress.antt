-- What `--progress` tells on standard error.
use Rattle.std.specs.Prelude.{◌≡◌, ◌⊎◌, ℕ, Bool, true, false, List, [], Option, Some, None, ◌++◌, codes, decimal}
use Rattle.std.specs.Io.KnownBytes.{Appends}
use Rattle.debugger.specs.StreamFailures.{AppendsFront}
use Rattle.command_line.specs.Reports.{line_end}

-- the sum of the numbers of images; `over` where a moment has over 65,536
abbrev pub total_text : Option ℕ → List ℕ
total_text (Some images) = decimal images
total_text None = codes "over"

-- `moment M of N, images I`
abbrev pub progress_line : ℕ → ℕ → Option ℕ → List ℕ
progress_line moment moments images =
    codes "moment " ++ (decimal moment ++ (codes " of " ++ (decimal moments ++ (codes ", images " ++ (total_text images ++ line_end)))))

-- a text that tells how far a verdict has come gets such a line, or none
abbrev pub gets_line : List ℕ → ℕ → ℕ → Option ℕ → List ℕ → Type 0
gets_line text moment moments images text' = (text' ≡ text) ⊎ (text' ≡ text ++ progress_line moment moments images)

-- `states N, waiting N, bytes N`
abbrev pub states_line : ℕ → ℕ → ℕ → List ℕ
states_line met waiting bytes =
    codes "states " ++ (decimal met ++ (codes ", waiting " ++ (decimal waiting ++ (codes ", bytes " ++ (decimal bytes ++ line_end)))))

-- a text that reports how many states were met gets such a line, or none
abbrev pub gets_states_line : List ℕ → ℕ → ℕ → ℕ → List ℕ → Type 0
gets_states_line text met waiting bytes text' = (text' ≡ text) ⊎ (text' ≡ text ++ states_line met waiting bytes)

-- such a text, or a front of it, was written
pub record Progresses (tells : List ℕ → Type 0) (old new : Option (List ℕ)) : Type 0 where
  pub text : List ℕ
  pub is_told : tells text
  pub writes : AppendsFront old new text

-- it is told where that is asked for, and else nothing is
abbrev pub IsToldIf : {E : Type 0} → Bool → Type 0 → E → E → Type 0
IsToldIf true told errors errors' = told
IsToldIf false told errors errors' = errors' ≡ errors

-- that line was written, or nothing; where standard error failed a front of it was
pub record WritesLine (line : List ℕ) (old new : Option (List ℕ)) (is_well : Bool) : Type 0 where
  pub written : List ℕ
  pub is_line : (written ≡ []) ⊎ (written ≡ line)
  pub whole : is_well ≡ true → Appends old new written
  pub front : AppendsFront old new written

-- so it is where lines are wanted, as long as all of them get through; else nothing is written
abbrev pub WritesIf : {E : Type 0} → (E → Option (List ℕ)) → List ℕ → Bool → E → Bool → E → Type 0
WritesIf said line true errors wanted' errors' = WritesLine line (said errors) (said errors') wanted'
WritesIf said line false errors wanted' errors' = (wanted' ≡ false) × (errors' ≡ errors)
