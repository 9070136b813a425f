-- What the passes over the lines know on the way.
use Rattle.std.specs.Prelude.{◌≡◌, ℕ, ◌+◌, ◌≤◌, List, length}
use mathlib.Core.List.{reverse_aux}
use Rattle.asm_lex.specs.Lines.{lines_of}
use Rattle.assemble.specs.declared.labels.Labels.{Labels}
use Rattle.assemble.specs.declared.position.Position.{Position}
use Rattle.assemble.specs.Places.{value_in}
use Rattle.assemble.specs.declared.fault.AsmFault.{AsmFault}
use Rattle.assemble.specs.AllFaults.{faults_among, faults_behind, sound}
use Rattle.assemble.specs.Faults.{NoneHas, early_code, late_code}
use Rattle.assemble.specs.Assembly.{lines_back, values_of}
use Rattle.assemble.specs.Labels.{place_at}
use Rattle.assemble.specs.Positions.{IsAfter}

-- the position and the labels after these lines
pub record IsPlaced (earlier : List (List ℕ)) (position : Position) (labels : Labels) : Type 0 where
  pub position_is : IsAfter earlier position
  pub labels_are : place_at labels ≡ value_in earlier

-- the line of this number stands next in a source, after these lines
pub record IsNext (source rest : List ℕ) (number : ℕ) (earlier : List (List ℕ)) : Type 0 where
  pub split : reverse_aux (lines_of rest) earlier ≡ lines_back source
  pub number_is : number ≡ length earlier + 1
  pub counted : number + length rest ≤ 1 + length source

-- the first pass: no line before has a fault
pub record Placing (source rest : List ℕ) (number : ℕ) (position : Position) (labels : Labels) : Type 0 where
  pub earlier : List (List ℕ)
  pub next : IsNext source rest number earlier
  pub placed : IsPlaced earlier position labels
  pub none : NoneHas (early_code (length source)) earlier

-- the pass for all faults that need no label's place
pub record FindingEarly (source rest : List ℕ) (number : ℕ) (position : Position) (labels : Labels) (found : List AsmFault) : Type 0 where
  pub earlier : List (List ℕ)
  pub next : IsNext source rest number earlier
  pub placed : IsPlaced (sound (early_code (length source)) earlier) position labels
  pub found_are : found ≡ faults_behind (early_code (length source)) earlier

-- and that for all faults of labels
pub record FindingLate (source rest : List ℕ) (number : ℕ) (position : Position) (found : List AsmFault) : Type 0 where
  pub earlier : List (List ℕ)
  pub next : IsNext source rest number earlier
  pub placed : IsAfter earlier position
  pub found_are : found ≡ faults_among (late_code (values_of source)) earlier
