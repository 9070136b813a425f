-- Runs that differ in their evictions alone.
use Rattle.std.specs.Prelude.{◌≡◌, List, Bool, true, false, filter}
use Rattle.machine.specs.declared.shared_memory.history.Entry.{Entry}
use Rattle.machine.specs.declared.shared_memory.history.Entry.TheVariants.{Asked, Evicted}
use Rattle.machine.specs.declared.schedule.items.Step.{Step}
use Rattle.machine.specs.declared.schedule.items.Step.TheVariants.{Hart, Evict}
use Rattle.machine.specs.Run.{Config}

-- the hart steps of a list of steps, in order, without its evictions
abbrev pub is_hart_step : Step → Bool
is_hart_step (Hart h) = true
is_hart_step (Evict line) = false

abbrev pub hart_steps : List Step → List Step
hart_steps steps = filter is_hart_step steps

-- the requests of a history, without its evictions
abbrev pub is_asked : Entry → Bool
is_asked (Asked h request reply) = true
is_asked (Evicted line) = false

abbrev pub requests : List Entry → List Entry
requests history = filter is_asked history

-- two configurations are one but for the evictions of their histories: so their flat memories and their traces are the same
pub record AreAlike (c d : Config) : Type 0 where
  pub harts : c.harts ≡ d.harts
  pub start : c.common.start ≡ d.common.start
  pub initial : c.common.initial ≡ d.common.initial
  pub requests : requests c.common.history ≡ requests d.common.history
