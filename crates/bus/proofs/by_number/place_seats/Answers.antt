use Rattle.std.proofs.Common.{◌≡◌, subst, arith}
use Rattle.bus.specs.Numbering.{ArePlacedUpTo}
use Rattle.bus.proofs.Numbering.{all_placed, missing, placed_inside, placed_more, placed_none, seat_inside, too_many}
use Rattle.bus.proofs.by_number.place_seats.Goals as goal

pub loop-hart-init : goal.loop-hart-init
loop-hart-init c = placed_none c.args.seats.now

pub returns-in-None-clause-err : goal.returns-in-None-clause-err
returns-in-None-clause-err c =
    missing c.loop-hart.hart c.args.harts c.args.seats.now c.loop-hart.seats c.loop-hart-test.true c.loop-hart.invariant c.in-None.ensures.none

pub swap-requires-clause-a_in_bounds : goal.swap-requires-clause-a_in_bounds
swap-requires-clause-a_in_bounds c =
    let inside = seat_inside c.loop-hart.seats c.in-Some.at c.loop-hart.hart c.in-Some.ensures.some in
    let high = placed_inside c.loop-hart.hart c.args.seats.now c.loop-hart.seats c.in-Some.at c.loop-hart.invariant c.in-Some.ensures.some in
    omega (arith, inside, high)

pub swap-requires-clause-b_in_bounds : goal.swap-requires-clause-b_in_bounds
swap-requires-clause-b_in_bounds c = seat_inside c.loop-hart.seats c.in-Some.at c.loop-hart.hart c.in-Some.ensures.some

pub loop-hart-preserved : goal.loop-hart-preserved
loop-hart-preserved c =
    placed_more c.loop-hart.hart c.args.seats.now c.loop-hart.seats c.swap.new.self c.in-Some.at c.loop-hart.invariant c.in-Some.ensures.some
    c.swap.ensures.after

pub returns-then-seats-harts-clause-err : goal.returns-then-seats-harts-clause-err
returns-then-seats-harts-clause-err c =
    let most = c.loop-hart.auto.hart-end in
    let end = c.loop-hart-test.false in
    let whole : c.loop-hart.hart ≡ c.args.harts = omega (arith, most, end) in
    too_many c.args.harts c.args.seats.now c.loop-hart.seats c.if-seats-harts.true
    (subst (λ n. ArePlacedUpTo n c.args.seats.now c.loop-hart.seats) whole c.loop-hart.invariant)

pub returns-clause-ok : goal.returns-clause-ok
returns-clause-ok c =
    let most = c.loop-hart.auto.hart-end in
    let end = c.loop-hart-test.false in
    let whole : c.loop-hart.hart ≡ c.args.harts = omega (arith, most, end) in
    all_placed c.args.harts c.args.seats.now c.loop-hart.seats c.if-seats-harts.false
    (subst (λ n. ArePlacedUpTo n c.args.seats.now c.loop-hart.seats) whole c.loop-hart.invariant)
