use Rattle.std.proofs.Common.{◌≡◌, ap, sym}
use Rattle.debugger.specs.Points.{DebuggerView}
use Rattle.debugger.proofs.Walking.{walks_resting}
use Rattle.debugger.proofs.stepping.DebuggerStepper.make_several.Goals as goal

pub returns-then-has_stopped-clause-made : goal.returns-then-has_stopped-clause-made
returns-then-has_stopped-clause-made c =
    let machine : c.self.inside.machine ≡ c.args.self.now.machine = ap (λ (v : DebuggerView). v.machine) c.self.view_is in
    walks_resting c.args.self.now c.self.inside.machine c.args.step c.in-Hart.hart c.args.most machine c.in-Hart.is (sym c.if-has_stopped.ensures)
