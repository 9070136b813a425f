use Rattle.bus.proofs.Comparing.{all_agree_so, is_so, not_so, other_copy_fails}
use Rattle.bus.proofs.listing.check_copies.Goals as goal

pub returns-then-not-have_copies-clause-err : goal.returns-then-not-have_copies-clause-err
returns-then-not-have_copies-clause-err c =
    other_copy_fails c.args.core.now c.args.seats.now (rw c.program.ensures at c.text_bytes.ensures.size) c.requires.list c.requires.led
    (rw (c.text_bytes.ensures.text, c.program.ensures) at (not_so c.have_copies.result _ _ c.if-not-have_copies.true c.have_copies.ensures))

pub returns-clause-ok : goal.returns-clause-ok
returns-clause-ok c =
    all_agree_so c.args.core.now c.args.seats.now (rw c.program.ensures at c.text_bytes.ensures.size) c.requires.count c.requires.numbered
    c.requires.loaded c.requires.list c.requires.led
    (rw (c.text_bytes.ensures.text, c.program.ensures) at (is_so c.have_copies.result _ _ c.if-not-have_copies.false c.have_copies.ensures))
