use Rattle.bus.proofs.Foreign.{bytes_differ, other_copy}
use Rattle.bus.proofs.made_again.end_one.Goals as goal

pub returns-then-not-are_same_bytes-clause-err : goal.returns-then-not-are_same_bytes-clause-err
returns-then-not-are_same_bytes-clause-err c =
    other_copy c.args.seat.now c.args.follower.now (rw c.bytes.ensures.value at c.bytes.ensures.whole) c.copy.ensures.whole
    (bytes_differ _ _ _ _ _ c.if-not-are_same_bytes.true c.are_same_bytes.ensures c.bytes.ensures.value c.copy.ensures.value)
