-- The lines of a source that are at fault, each with its lowest code. The lines before a line are listed with the last one first.
use Rattle.std.specs.Prelude.{◌≡◌, ◌⊎◌, ℕ, ◌+◌, ◌≤◌, List, [], ◌∷◌, ◌++◌, length, Option, Some, None, ℤ}
use Rattle.std.specs.Result.{result_err}
use Rattle.assemble.specs.AsmLineFaults.{◌>>=◌}
use Rattle.assemble.specs.Assembly.{lines_back, values_of}
use Rattle.assemble.specs.Faults.{Codes, early_code, late_code}
use Rattle.assemble.specs.Numbers.{even, in_range}
use Rattle.assemble.specs.declared.asm_line.fault.AsmCode.{AsmCode}
use Rattle.assemble.specs.declared.fault.AsmFault.{AsmFault}

-- the fault of the line of this number, if it has a code
abbrev pub fault_at : ℕ → Option AsmCode → List AsmFault
fault_at number None = []
fault_at number (Some code) = record { line = number; code = code } ∷ []

-- the code of a distance that is to be even and in a range
abbrev pub reach_code : ℤ → ℤ → ℤ → Option AsmCode
reach_code distance low high = result_err (in_range distance low high >>= even)

-- these lines and one more, which counts as none where it is at fault
abbrev pub with_line : Option AsmCode → List ℕ → List (List ℕ) → List (List ℕ)
with_line None line earlier = line ∷ earlier
with_line (Some code) line earlier = earlier

-- those of the lines that aren't at fault, each behind those before it
unfoldable pub sound : Codes → List (List ℕ) → List (List ℕ)
sound code_of [] = []
sound code_of (line ∷ earlier) = with_line (code_of (sound code_of earlier) line) line (sound code_of earlier)

-- the faults of lines behind those that aren't at fault, upwards
unfoldable pub faults_behind : Codes → List (List ℕ) → List AsmFault
faults_behind code_of [] = []
faults_behind code_of (line ∷ earlier) = faults_behind code_of earlier ++ fault_at (length earlier + 1) (code_of (sound code_of earlier) line)

-- the faults of lines behind all lines, upwards
unfoldable pub faults_among : Codes → List (List ℕ) → List AsmFault
faults_among code_of [] = []
faults_among code_of (line ∷ earlier) = faults_among code_of earlier ++ fault_at (length earlier + 1) (code_of earlier line)

-- those that need no label's place, and those of labels that are unknown or out of reach
abbrev pub early_faults : List ℕ → List AsmFault
early_faults source = faults_behind (early_code (length source)) (lines_back source)

abbrev pub late_faults : List ℕ → List AsmFault
late_faults source = faults_among (late_code (values_of source)) (lines_back source)

abbrev pub or_else : List AsmFault → List AsmFault → List AsmFault
or_else [] others = others
or_else (fault ∷ faults) others = fault ∷ faults

-- the faults of a source: the first ones, and the others only where it has none of those
abbrev pub faults_of : List ℕ → List AsmFault
faults_of source = or_else (early_faults source) (late_faults source)

-- all of these where they are no more than so many, or so many from the first one on
pub record AreFirst (most : ℕ) (all found : List AsmFault) : Type 0 where
  pub rest : List AsmFault
  pub whole : all ≡ found ++ rest
  pub as_many : (rest ≡ []) ⊎ (length found ≡ most)
  pub few : length found ≤ most
