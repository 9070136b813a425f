use Rattle.std.proofs.Common.{◌≡◌, ◌+◌, replicate, slice_get}
use Rattle.machine.specs.Represents.{IsRunning}
use Rattle.machine.specs.declared.schedule.items.Step.TheVariants.{Hart}
use Rattle.random_schedule.specs.Making.{Continues}
use Rattle.random_schedule.proofs.making.Making.make_steps.Given as goal

abbrev pub invariant-loop-done : goal.invariant-loop-done
invariant-loop-done l = record {
  continues : Continues l.fn.self l.self (replicate l._done (Hart l.hart));
  made : l.self.made ≡ l.fn.self.made + l._done;
  running : IsRunning (slice_get l.self.machine.harts l.hart);
}
