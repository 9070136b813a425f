use Rattle.lru_cache.proofs.Shows.{over_empty}
use Rattle.lru_cache.proofs.Stays.{in_new, made_is, ordered_empty}
use Rattle.lru_cache.proofs.Cache.new.Goals as goal

pub invariant_of-result : goal.invariant_of-result
invariant_of-result c =
    rw (c.in_ok-slots.ensures.made, c.in_ok-copies.ensures.items, c.in_ok-leaving.ensures.items, c.in_ok-orders.ensures.made)
    (in_new c.args.capacity c.args.lines c.min-most.result c.min-most.ensures c.requires (rw c.in_ok-slots.ensures.made at c.in_ok-slots.ensures.sound) (ordered_empty c.args.lines), ((c.in_ok-copies.ensures.len, c.in_ok-copies.ensures.exact), (c.in_ok-leaving.ensures.len, c.in_ok-leaving.ensures.exact)))

pub returns-clause-made : goal.returns-clause-made
returns-clause-made c =
    rw (c.in_ok-slots.ensures.made, c.in_ok-copies.ensures.items, c.in_ok-leaving.ensures.items, c.in_ok-orders.ensures.made) (made_is c.args.capacity c.args.lines c.min-most.result)

pub returns-clause-sound : goal.returns-clause-sound
returns-clause-sound c = (invariant_of-result c).0.held.sound

pub returns-clause-over : goal.returns-clause-over
returns-clause-over c = λ medium m e. rw (returns-clause-made c) (over_empty _ _ medium m e)
