use Rattle.std.proofs.Common.{rules, ◌≡◌, map, refl}
use Rattle.schedule_states.proofs.Stepping.{line_cleaned, line_of}
use Rattle.schedule_states.specs.LineStates.{gone_with}
use Rattle.schedule_states.proofs.line_state.LineState.cleaned.Goals as goal

pub returns-clause-line : goal.returns-clause-line
returns-clause-line c =
    let gone : c.in_ok-others.others.items ≡ map (gone_with c.args.hart) c.args.self.now.others.items = search rules in
    λ start l p is. line_cleaned start l c.args.hart p (line_of c.args.self.now) (record { bytes = c.args.self.now.bytes; others = c.in_ok-others.others.items }) is refl gone
