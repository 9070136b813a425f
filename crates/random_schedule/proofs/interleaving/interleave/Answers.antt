use Rattle.std.proofs.Common.{arith}
use Rattle.random_schedule.proofs.Final.{is_drawn, is_whole}
use Rattle.random_schedule.proofs.Woven.{woven_harts}
use Rattle.random_schedule.proofs.interleaving.interleave.Goals as goal

pub returns-clause-whole : goal.returns-clause-whole
returns-clause-whole c = λ c' stands.
    is_whole c' c.args.seed c.args.steps c.args.evictions _ _ _ _ _ _ _ (rw c.new-numbers.ensures at (c.in_ok-made.ensures.made c' stands))
    (rw c.deref.ensures.value at c.in_ok-evictions.ensures.none) (rw c.deref.ensures.value at c.in_ok-evictions.ensures.drawn) c.in_ok-woven.ensures

pub returns-clause-drawn : goal.returns-clause-drawn
returns-clause-drawn c = λ c' stands.
    is_drawn c' c.args.seed c.args.steps c.args.evictions _ _ _ _ _ _ _ (rw c.new-numbers.ensures at (c.in_ok-made.ensures.made c' stands))
    (rw c.deref.ensures.value at c.in_ok-evictions.ensures.none) (rw c.deref.ensures.value at c.in_ok-evictions.ensures.drawn) c.in_ok-woven.ensures

pub returns-clause-within : goal.returns-clause-within
returns-clause-within c = omega (arith, woven_harts c.in_ok-woven.woven c.in_ok-made.made.schedule c.in_ok-evictions.evictions.items c.in_ok-woven.ensures, c.in_ok-made.ensures.count, c.in_ok-made.ensures.limit)
