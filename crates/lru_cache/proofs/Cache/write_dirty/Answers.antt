use Rattle.std.proofs.Common.{arith}
use Rattle.std.proofs.lemmas.Bool.Decides.{nat_tests}
use Rattle.index_list.proofs.Members.{has-without}
use Rattle.lru_cache.proofs.Shows.{over_write_back, shown_written}
use Rattle.lru_cache.proofs.Cache.write_dirty.Goals as goal

pub returns-clause-shown : goal.returns-clause-shown
returns-clause-shown c =
    rw (c.note_write_back.ensures.changed, c.write_line.ensures.changed, c.shown_line.ensures.value) (shown_written _ _ c.args.line)

pub returns-clause-over : goal.returns-clause-over
returns-clause-over c =
    rw (c.note_write_back.ensures.changed, c.write_line.ensures.changed, c.shown_line.ensures.value) (over_write_back _ c.shown_line.ensures.sound _ c.requires.over c.args.line c.requires.there)

pub returns-clause-written : goal.returns-clause-written
returns-clause-written c =
    rw c.note_write_back.ensures.changed
    (grind (arith, nat_tests, has-without c.args.line c.args.line c.args.self.now.orders.dirty c.shown_line.ensures.sound.ordered.dirty_once))
