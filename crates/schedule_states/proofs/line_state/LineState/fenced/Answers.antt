use Rattle.std.proofs.Common.{rules, ◌≡◌, refl}
use Rattle.std.specs.Prelude.{filter}
use Rattle.schedule_states.proofs.Stepping.{line_fenced, line_of}
use Rattle.schedule_states.specs.LineStates.{stays_after}
use Rattle.schedule_states.proofs.line_state.LineState.fenced.Goals as goal

pub returns-clause-line : goal.returns-clause-line
returns-clause-line c =
    let left : c.in_ok-others.others.items ≡ filter (stays_after c.args.hart) c.args.self.now.others.items = search rules in
    λ start l p is. line_fenced start l c.args.hart p (line_of c.args.self.now)
    (record { bytes = c.args.self.now.bytes; others = c.in_ok-others.others.items }) c.requires is refl left
