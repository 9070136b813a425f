use Rattle.std.proofs.Common.{refl}
use Rattle.bus.proofs.Starting.{seats_more}
use Rattle.bus.specs.Starting.{seat_at_start}
use Rattle.bus.proofs.fresh_seats.starting_seats.Goals as goal

pub loop-hart-preserved : goal.loop-hart-preserved
loop-hart-preserved c =
    seats_more (seat_at_start c.args.program.now.text c.args.budget c.args.text.now) c.loop-hart.hart _ _ _ c.loop-hart.invariant
    c.in_ok-push_seat.ensures.ok
    (rw (c.start.ensures, c.text_bytes.ensures.text, c.in_ok-copy.ensures.ok, c.new-in-loop-hart.ensures.items) refl)
