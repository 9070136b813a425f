use Rattle.std.proofs.Common.{ap, inl, inr}
use Rattle.debugger.specs.Points.{DebuggerView}
use Rattle.debugger.proofs.Watching.{asks_for_nothing, asks_there}
use Rattle.debugger.proofs.debugger.Debugger.accessed_line.Goals as goal

pub returns-in-Ask : goal.returns-in-Ask
returns-in-Ask c =
    asks_there c.self.inside.machine c.args.self.now.machine c.args.hart c.in_ok-running.field-0.now c.in-Ask.request _
    (ap (λ (v : DebuggerView). v.machine) c.self.view_is) c.in_ok-running.ensures.some.0 c.in_ok-running.ensures.some.1 c.in-Ask.ensures
    c.touched_line.ensures

pub returns-in-Local : goal.returns-in-Local
returns-in-Local c =
    asks_for_nothing c.self.inside.machine c.args.self.now.machine c.args.hart c.in_ok-running.field-0.now c.need.result
    (ap (λ (v : DebuggerView). v.machine) c.self.view_is) c.in_ok-running.ensures.some.0 c.need.ensures
    (λ request e. elim c.in-Local.is [ inl w ↦ absurd (cc) | inr w ↦ absurd (cc) ])
