use Rattle.std.proofs.Common.{rules, ◌≡◌, ◌++◌, ◌∷◌, []}
use Rattle.std.proofs.lemmas.Fn.{filter_same}
use Rattle.schedule_states.proofs.Stepping.{left_apart, line_of}
use Rattle.schedule_states.specs.LineStates.{differs_from, unfenced}
use Rattle.schedule_states.proofs.line_state.LineState.others_beside.Goals as goal

pub returns : goal.returns
returns c =
    let pushed : c.push.new.self.items ≡ c.args.self.now.others.items ++ unfenced c.args.self.now.bytes ∷ [] = search rules in
    left_apart (line_of c.args.self.now) (record { bytes = c.args.bytes.now; others = c.sort.new.self.items }) c.retain.new.self.items
    (rw pushed at (filter_same _ (differs_from c.args.bytes.now) _ (λ x b f' k. search rules) _ _ c.retain.ensures.filtered))
    c.sort.ensures.permutation
