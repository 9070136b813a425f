use Rattle.std.proofs.Common.{◌≡◌, ◌<◌, None, Some, length, slice_index_or, ◌∙◌, arith}
use Rattle.std.proofs.lemmas.Option.{get_or_from_slice_get, slice_get_within}
use Rattle.schedule_states.proofs.known_turns.look_at.Goals as goal

pub returns-clause-known : goal.returns-clause-known
returns-clause-known g c n looked here =
    let within : n < length c.args.turns.now = omega (arith, slice_get_within c.for_each_mut.new.s n (Some looked) here, c.for_each_mut.auto.s) in
    let each = c.for_each_mut.ensures n None within in
    let got : slice_index_or c.for_each_mut.new.s n None ≡ Some looked = get_or_from_slice_get c.for_each_mut.new.s n (Some looked) None here in
    let after : each.1.after_call.now ≡ Some looked = each.1.left ∙ got in
    rw after at each.1.call
