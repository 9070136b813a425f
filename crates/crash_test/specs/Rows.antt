-- Which moments of a run are judged, and what ends the verdict.
use Rattle.std.specs.Prelude.{ℕ, Bool, Option}
use Rattle.crash_test.specs.declared.work.Work.{Work}

-- the moments from the first to the last one, or to that of the run, and whether judging goes on behind those with too many branches
pub record Row : Type 0 where
  pub first : ℕ
  pub last : Option ℕ
  pub goes_on : Bool

-- what a number of workers is to judge
abbrev pub row_of : Work → Row
row_of work = record { first = work.first; last = work.last; goes_on = work.goes_on }
