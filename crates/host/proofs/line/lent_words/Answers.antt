-- All that is lent was collected, in its order.
use Rattle.host.proofs.line.lent_words.Goals as goal

pub returns-in_ok-collect-in-Ok : goal.returns-in_ok-collect-in-Ok
returns-in_ok-collect-in-Ok c =
    let ran = c.in_ok-collect-in-Ok.ensures.ran in
    let done = ran.1.2 tt in
    rw c.in-Ok.is (done.0, (ran.1.0, rw ran.2.0 ran.1.1, done.1))
