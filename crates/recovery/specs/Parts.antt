-- The part of a box on whose images a routine makes one run.
use Rattle.std.specs.Prelude.{ℕ, ◌<◌, Bool, List, length}
use Rattle.std.specs.List.{AllByRecursion}
use Rattle.program.specs.Sections.{Sections}
use Rattle.machine.specs.Run.{Config, started}
use Rattle.recovery.specs.Asking.{asked}
use Rattle.recovery.specs.Boxes.{AreWhole, IsIn, part_of}
use Rattle.recovery.specs.Recovery.{RunsFor}

-- the routine's run on an image of the box comes to this; it asks lines of the image alone
pub record IsOpenedBy (program : Sections) (steps : ℕ) (box : List (List (List ℕ))) (image : List (List ℕ)) (end : Config) (full : Bool) : Type 0 where
  pub whole : AreWhole box
  pub inside : IsIn box image
  pub runs : RunsFor (started program image 1) steps end full
  pub below : AllByRecursion (λ q. q.line < length box) (asked end.common.history)

-- the images of the box that have the bytes which that run asked
abbrev pub part_by : List (List (List ℕ)) → List (List ℕ) → Config → List (List (List ℕ))
part_by box image end = part_of box image (asked end.common.history)
