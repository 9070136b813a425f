use Rattle.durability.proofs.Lates.{outside_first, outside_more, outside_none}
use Rattle.durability.proofs.ends.outside_losses.Goals as goal

pub loop-at-init : goal.loop-at-init
loop-at-init c = record {
  under_way = c.none-under_way.ensures c.args.events.now;
  lost = rw c.new-lost.ensures.items (outside_none c.args.events.now);
}

pub loop-at-preserved : goal.loop-at-preserved
loop-at-preserved c = record {
  under_way = c.in_ok-read.ensures.after;
  lost = rw c.in_ok-add.ensures
      (outside_more c.args.events.now c.loop-at.at c.loop-at.lost.items c.outside_store.result c.loop-at.invariant.lost c.outside_store.ensures);
}

pub returns : goal.returns
returns c =
    outside_first c.args.events.now c.loop-at.at c.loop-at.lost.items c.first_of_each_line.new.lost.items c.loop-at-test.false c.loop-at.invariant.lost
    c.first_of_each_line.ensures
