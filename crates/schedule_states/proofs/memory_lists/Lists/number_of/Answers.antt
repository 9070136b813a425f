use Rattle.std.proofs.Common.{List, Some, option_map, ap, sym, ◌∙◌}
use Rattle.std.proofs.lemmas.Option.{slice_get-map}
use Rattle.std.proofs.lemmas.Result.{IfOk-weaker}
use Rattle.std.specs.Global.{Vec}
use Rattle.schedule_states.specs.declared.held_lines.HeldLine.{HeldLine}
use Rattle.schedule_states.proofs.memory_lists.Lists.number_of.Goals as goal

pub returns-in-Own-clause-number : goal.returns-in-Own-clause-number
returns-in-Own-clause-number c = IfOk-weaker c.number_of.result _ _
    (λ number has. slice_get-map (λ (list : Vec HeldLine). list.items) c.number_of.new.self number
    ∙ ap (λ (found : _). option_map (λ (list : Vec HeldLine). list.items) found) has.here
    ∙ ap (λ (items : List HeldLine). Some items) (sym (c.equal_lists_are_same.ensures c.args.list has.found has.equal)))
    c.number_of.ensures.number
