use Rattle.std.proofs.Common.{arith}
use Rattle.std.proofs.lemmas.List.Sums.{sum_by_more}
use Rattle.random_schedule.proofs.Weaves.{item_woven}
use Rattle.random_schedule.proofs.weaving.weave_sorted.Goals as goal

pub loop-item-preserved : goal.loop-item-preserved
loop-item-preserved c = record {
  items = c.loop-item.invariant.items;
  made = grind (arith, sum_by_more, c.in_ok-made.ensures.made, c.loop-item.invariant.made);
  woven = item_woven _ _ c.loop-item.item-index _ _ _ _ (omega arith) c.loop-item.invariant.made c.loop-item.invariant.woven c.in_ok-made.ensures.woven;
}
