-- What a contract sees of a list of boxes with bounds.
use Rattle.std.specs.Prelude.{ℕ, List}
use Rattle.recovery.specs.Closed.{BoundBox}

-- how many lines their images have, and the boxes
pub record BoxesView : Type 0 where
  pub lines : ℕ
  pub boxes : List BoundBox
