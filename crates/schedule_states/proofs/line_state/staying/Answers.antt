use Rattle.std.proofs.Common.{rules, ◌≡◌}
use Rattle.std.proofs.lemmas.Fn.{filter_same}
use Rattle.schedule_states.specs.LineStates.{stays_after}
use Rattle.schedule_states.proofs.line_state.staying.Goals as goal

pub returns : goal.returns
returns c =
    let same : c.in_ok-others.others.items ≡ c.args.contents.now = search rules in
    rw same at (filter_same _ (stays_after c.args.hart) _ (λ x b f' k. search rules) _ _ c.retain.ensures.filtered)
