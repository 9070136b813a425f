-- By the events as they are told.
use Rattle.command_line.proofs.ToldReasons.{told_by}
use Rattle.command_line.proofs.reasons.told_why.Goals as goal

pub returns-in_ok-told-in-Some : goal.returns-in_ok-told-in-Some
returns-in_ok-told-in-Some c =
    rw c.in-Some.is (told_by c.args.json c.args.events.now _ c.in_ok-told-in-Some.told _ c.in_ok-told-in-Some.ensures.told
    (rw c.as_slice.ensures.value at c.told_losses.ensures))
