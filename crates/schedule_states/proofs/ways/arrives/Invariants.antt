use Rattle.std.specs.Prelude.{◌≡◌, ◌<◌, length, take}
use Rattle.schedule_states.specs.Ways.{walked}
use Rattle.schedule_states.proofs.ways.arrives.Given as goal

abbrev pub invariant-loop-hart : goal.invariant-loop-hart
invariant-loop-hart l = record {
  there : l.at < length l.next;
  is : l.at ≡ walked l.next 0 (take l.hart-index l.requests);
}
