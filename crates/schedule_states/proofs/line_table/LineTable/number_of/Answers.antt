use Rattle.std.proofs.Common.{◌≡◌, ◌<◌, ◌+◌, length, ap, sym, ◌∙◌, arith, rules}
use Rattle.std.proofs.lemmas.Result.{IfOk-weaker}
use Rattle.schedule_states.proofs.Sizing.{sum_grown}
use Rattle.schedule_states.specs.Sizes.{others_in}
use Rattle.schedule_states.specs.declared.line_state.LineState.{LineState}
use Rattle.schedule_states.proofs.line_table.LineTable.number_of.Goals as goal

pub invariant_of-self : goal.invariant_of-self
invariant_of-self c =
    let more : length c.self.inside.states < length c.number_of-number.new.self = omega (arith, c.if-count-known.true, c.count-known.ensures.count, c.count.ensures.count) in
    let sum : others_in c.number_of-number.new.self ≡ others_in c.self.inside.states + length c.args.state.others.items =
    sum_grown (λ (state : LineState). length state.others.items) c.self.inside.states c.number_of-number.new.self c.args.state c.number_of-number.ensures.appended more in
    let same : c.in_ok-others.others ≡ c.self.inside.others + length c.args.state.others.items = search rules in
    same ∙ ap (λ (n : _). n + length c.args.state.others.items) c.self.invariant ∙ sym sum

pub returns-then-count-known-clause-number : goal.returns-then-count-known-clause-number
returns-then-count-known-clause-number c = IfOk-weaker c.number_of-number.result _ _
    (λ number has. (has.found, has.here, c.equal_lines_are_same.ensures c.args.state has.found has.equal)) c.number_of-number.ensures.number

pub returns-else-count-known-clause-number : goal.returns-else-count-known-clause-number
returns-else-count-known-clause-number c = IfOk-weaker c.number_of-number.result _ _
    (λ number has. (has.found, has.here, c.equal_lines_are_same.ensures c.args.state has.found has.equal)) c.number_of-number.ensures.number
