use Rattle.std.proofs.Common.{◌≡◌, map}
use Rattle.std.specs.List.{range_with_len}
use Rattle.bus.specs.Starting.{seat_at_start}
use Rattle.bus.proofs.fresh_seats.starting_seats.Given as goal

abbrev pub invariant-loop-hart : goal.invariant-loop-hart
invariant-loop-hart l = l.seats.items ≡ map (seat_at_start l.program.text l.budget l.text) (range_with_len 0 l.hart)
