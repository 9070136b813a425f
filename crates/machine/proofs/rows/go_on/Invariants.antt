use Rattle.std.proofs.Common.{◌≡◌}
use Rattle.hart.specs.declared.state.Status.TheVariants.{Running}
use Rattle.machine.specs.Represents.{text_bytes}
use Rattle.machine.specs.Rows.{AreStepsOf}
use Rattle.machine.proofs.rows.go_on.Given as goal

abbrev pub invariant-loop-made : goal.invariant-loop-made
invariant-loop-made l = record {
  steps : AreStepsOf (text_bytes l.copy) l.hart l.made l.fn.state l.state l.fn.shared l.shared;
  same : l.shared.trace ≡ l.fn.shared.trace;
  running : l.state.status ≡ Running;
}
