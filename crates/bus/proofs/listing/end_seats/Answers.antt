use Rattle.std.proofs.lemmas.Result.{err_from_is_err_and}
use Rattle.bus.proofs.Comparing.{end_fails_at, whole_none, whole_one}
use Rattle.bus.proofs.listing.end_seats.Goals as goal

pub loop-place-init : goal.loop-place-init
loop-place-init c = whole_none c.args.text.now c.args.seats.now c.args.counts.now c.args.runs.now

pub loop-place-preserved : goal.loop-place-preserved
loop-place-preserved c =
    whole_one c.args.text.now c.loop-place.place c.args.seats.now c.args.counts.now c.args.runs.now c.loop-place.runs c.end_seat.new.runs
    c.index-seats-place.result c.requires.numbered c.requires.places c.loop-place-test.true c.index-seats-place.is c.loop-place.invariant
    c.in_ok-end_seat.ensures.whole c.in_ok-end_seat.ensures.steps c.in_ok-end_seat.ensures.numbers

pub returns-in_err-end_seat-clause-err : goal.returns-in_err-end_seat-clause-err
returns-in_err-end_seat-clause-err c =
    let p = err_from_is_err_and c.from_residual.result c.from_residual.ensures.1 in
    rw (p.1, p.2) (end_fails_at c.args.text.now c.args.seats.now c.args.counts.now c.loop-place.place c.index-seats-place.result _
    c.requires.places c.loop-place-test.true c.index-seats-place.is c.in_err-end_seat.ensures.err)
