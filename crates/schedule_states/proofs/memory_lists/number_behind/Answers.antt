use Rattle.std.proofs.Common.{◌≡◌, ℕ, ◌+◌, ◌++◌, ◌∷◌, [], length, option_map, ap, sym, ◌∙◌, rules}
use Rattle.std.proofs.lemmas.Option.{slice_get-map}
use Rattle.std.proofs.lemmas.Result.{IfOk-weaker}
use Rattle.std.specs.Global.{Vec}
use Rattle.schedule_states.proofs.Looking.{got_right, seen_behind}
use Rattle.schedule_states.specs.declared.held_lines.HeldLine.{HeldLine}
use Rattle.schedule_states.proofs.memory_lists.number_behind.Goals as goal

pub returns-clause-number : goal.returns-clause-number
returns-clause-number c =
    let items : c.push.new.self.items ≡ c.args.further.now.items ++ c.args.list ∷ [] = search rules in
    let at : c.in_ok-number.number ≡ length c.args.lists.now + (length c.args.further.now.items + 0) = search rules in
    rw (items, at) (seen_behind (λ (list : Vec HeldLine). list.items) c.args.lists.now (c.args.further.now.items ++ c.args.list ∷ []) (length c.args.further.now.items + 0) c.args.list
    (got_right c.args.further.now.items (c.args.list ∷ []) 0))

pub returns-in-Some-last_place-clause-number : goal.returns-in-Some-last_place-clause-number
returns-in-Some-last_place-clause-number c = IfOk-weaker c.number_at.result _ _ (λ number is.
    let at : number ≡ length c.args.lists.now + c.in-Some-last_place.place = is ∙ ap (λ (n : ℕ). n + c.in-Some-last_place.place) c.count.ensures.count in
    rw at (slice_get-map (λ (list : Vec HeldLine). list.items) (c.args.lists.now ++ c.args.further.now.items) (length c.args.lists.now + c.in-Some-last_place.place)
    ∙ ap (option_map (λ (list : Vec HeldLine). list.items)) (got_right c.args.lists.now c.args.further.now.items c.in-Some-last_place.place)
    ∙ sym (slice_get-map (λ (list : Vec HeldLine). list.items) c.args.further.now.items c.in-Some-last_place.place)
    ∙ (rw c.deref.ensures.value at c.in-Some-last_place.ensures)))
    c.number_at.ensures
