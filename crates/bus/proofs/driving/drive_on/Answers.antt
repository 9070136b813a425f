use Rattle.std.proofs.Common.{◌∙◌}
use Rattle.bus.proofs.Rounds.{driven_to_end, driven_to_refusal}
use Rattle.bus.proofs.driving.drive_on.Goals as goal

pub returns-in-Ends : goal.returns-in-Ends
returns-in-Ends g c = λ loose is within.
    let i = c.loop.invariant in
    driven_to_end c.args.seat.now c.args.stop.now c.make_round.new.stop c.make_round.new.seat loose c.loop.stop within
    (c.make_round.ensures.same ∙ i.2) (c.make_round.ensures.word ∙ i.3) is i.4 (rw c.in-Ends.is at c.make_round.ensures.round)

pub returns-in-Refused : goal.returns-in-Refused
returns-in-Refused g c = λ loose is within.
    let i = c.loop.invariant in
    driven_to_refusal c.args.seat.now c.args.stop.now c.make_round.new.stop c.make_round.new.seat loose c.loop.stop c.in-Refused.fault
    (c.make_round.ensures.same ∙ i.2) (c.make_round.ensures.word ∙ i.3) is (rw c.in-Refused.is at c.make_round.ensures.round)
