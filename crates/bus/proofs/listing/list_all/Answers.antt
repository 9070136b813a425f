use Rattle.std.proofs.lemmas.Result.{err_from_is_err_and}
use Rattle.bus.proofs.Comparing.{list_fails, listed_one}
use Rattle.bus.proofs.Replayed.{below_there}
use Rattle.bus.proofs.listing.list_all.Goals as goal

pub list_entry-requires-clause-below : goal.list_entry-requires-clause-below
list_entry-requires-clause-below c =
    below_there _ c.args.history.now c.loop-entry.entry-index _ c.loop-entry-test.true c.requires.below

pub loop-entry-preserved : goal.loop-entry-preserved
loop-entry-preserved c =
    listed_one c.args.seats.now c.loop-entry.counts c.list_entry.new.counts c.args.history.now c.loop-entry.entry-index _ c.loop-entry.runs
    c.list_entry.new.runs c.loop-entry-test.true c.loop-entry.invariant c.in_ok-list_entry.ensures.ok

pub returns-in_err-list_entry-clause-err : goal.returns-in_err-list_entry-clause-err
returns-in_err-list_entry-clause-err c =
    let p = err_from_is_err_and c.from_residual.result c.from_residual.ensures.1 in
    rw (p.1, p.2) (list_fails c.args.seats.now c.loop-entry.counts c.args.history.now c.loop-entry.entry-index _ c.loop-entry.runs _
    c.loop-entry-test.true c.loop-entry.invariant c.in_err-list_entry.ensures.err)
