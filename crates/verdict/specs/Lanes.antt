-- What the threads of a round open branches with.
use Rattle.std.specs.Prelude.{◌≡◌, ℕ, All, IfOk, IfSome, List, length}
use Rattle.verdict.specs.declared.branches.lanes.Lane.{Lane}
use Rattle.verdict.specs.declared.branches.pieces.Piece.{Piece}
use Rattle.verdict.specs.declared.branches.tools.Tools.{Tools}

-- the workspace is one for these images, and the run is one for as many lines
pub record AreTools {Workspace : Type 0} (fits : Workspace → Type 0) (lines : ℕ) (tools : Tools Workspace) : Type 0 where
  pub workspace : fits tools.workspace
  pub run : length tools.run.numbers ≡ lines

-- each lane that has tools has such
abbrev pub AreLanes : {Workspace Cause : Type 0} → (Workspace → Type 0) → ℕ → List (Lane Workspace Cause) → Type 0
AreLanes fits lines lanes = All (λ lane. IfSome lane.tools (AreTools fits lines)) lanes

-- each piece that the lane opened is right, unless memory was refused to it
abbrev pub HasOpened : {Workspace Cause : Type 0} → (Piece Cause → Type 0) → Lane Workspace Cause → Type 0
HasOpened right lane = IfOk lane.opened (λ pieces. All right pieces.items)
