use Rattle.std.proofs.Common.{◌≡◌, ap}
use Rattle.debugger.specs.Points.{DebuggerView}
use Rattle.debugger.proofs.debugger.Debugger.step.Goals as goal
use Rattle.debugger.proofs.debugger.Debugger.step.Goals.{in-Ok, in-Err}

pub returns-clause-full : goal.returns-clause-full
returns-clause-full c =
    let machine : c.self.inside.machine ≡ c.args.self.now.machine = ap (λ (v : DebuggerView). v.machine) c.self.view_is in
    let both = rw machine at c.step.ensures.full in (
      λ e. both.0 (elim c.match-step.branch [ in-Ok w ↦ cc | in-Err w ↦ cc ]),
      λ h. let full = both.1 h in elim c.match-step.branch [ in-Ok w ↦ cc | in-Err w ↦ cc ],
    )
