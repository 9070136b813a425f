use Rattle.std.proofs.Common.{◌≡◌, ◌∙◌, ap, sym}
use Rattle.debugger.specs.Points.{DebuggerView}
use Rattle.debugger.proofs.Watching.{stopped_by}
use Rattle.debugger.proofs.debugger.Debugger.make.Goals as goal
use Rattle.debugger.proofs.debugger.Debugger.make.Goals.{in-Ok+in-Some, in-Ok+in-None, in-Err}

pub returns-clause-ok : goal.returns-clause-ok
returns-clause-ok c =
    let machine : c.self.inside.machine ≡ c.args.self.now.machine = ap (λ (v : DebuggerView). v.machine) c.self.view_is in
    elim c.match-step.branch [
      | in-Ok+in-Some w ↦ rw w.result-is tt
      | in-Ok+in-None w ↦ rw w.result-is
          (stopped_by c.args.self.now _ c.args.step (ap (λ (v : DebuggerView). v.points) c.self.view_is) (rw machine at w.in-Ok.ensures.ok.runs)
          c.watch_on-watch.result _ w.in-Ok.outcome c.watch_on-watch.ensures (rw machine at w.in-Ok.ensures.ok.outcome_is)
          (sym w.in-None.is ∙ w.met_by.ensures))
      | in-Err w ↦ rw w.result-is tt
    ]
