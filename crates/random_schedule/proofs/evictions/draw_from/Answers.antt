use Rattle.std.proofs.Common.{arith}
use Rattle.std.proofs.lemmas.List.{length-append}
use Rattle.random_schedule.proofs.Drawn.{one_more}
use Rattle.random_schedule.proofs.evictions.draw_from.Goals as goal

pub loop-done-preserved : goal.loop-done-preserved
loop-done-preserved c = record {
  drawn = rw c.in_ok-push.ensures.items (one_more _ _ _ _ _ c.draw_eviction.result c.loop-done.invariant.drawn c.draw_eviction.ensures.drawn c.draw_eviction.ensures.state);
  count = grind (arith, length-append, c.in_ok-push.ensures.items, c.loop-done.invariant.count);
}
