-- What a power cut leaves at the end of a run, at any capacity of the cache.
use Rattle.std.specs.Prelude.{◌≡◌, ℕ, List}
use Rattle.machine.specs.declared.schedule.items.Step.{Step}
use Rattle.machine.specs.Cached.{medium_left}
use Rattle.machine.specs.Run.{Config, RunsTo}

-- these lines are what the run from c by these steps leaves: the medium behind the one cache of this capacity that all of its
-- requests and evictions leave
pub record IsLeftBy (c : Config) (steps : List Step) (capacity : ℕ) (lines : List (List ℕ)) : Type 0 where
  pub left : (end : Config) → RunsTo c steps end → lines ≡ medium_left capacity end.common.start end.common.history
