use Rattle.std.proofs.Common.{ℕ, ◌≤◌, ◌-◌}
use Rattle.machine.specs.Run.{Config}
use Rattle.random_schedule.specs.Making.{Agrees, HasTaken}
use Rattle.random_schedule.proofs.making.Making.take_turns.Given as goal

abbrev pub invariant-loop-self : goal.invariant-loop-self
invariant-loop-self l = record {
  within : l.self.made ≤ l.limit;
  agrees : Agrees l.fn.self → Agrees l.self;
  taken : (c : Config) (seed : ℕ) → HasTaken c seed l.limit l.fn.self l.fn.numbers → HasTaken c seed l.limit l.self l.numbers;
}

abbrev pub decreases-loop-self : goal.decreases-loop-self
decreases-loop-self l = l.limit - l.self.made
