use Rattle.std.proofs.Common.{◌≡◌, ◌+◌, ◌-◌, ◌≤◌, length, arith}
use Rattle.durability.proofs.Lates.{AreLostBehind, unpersisted_back, unpersisted_losses, unpersisted_none}
use Rattle.durability.specs.Unpersisted.{IsUnpersisted}
use Rattle.durability.proofs.ends.losses_of.Goals as goal

pub loop-number-init : goal.loop-number-init
loop-number-init c =
    let last = c.requires.stores.each c.args.ended.end 0 c.requires.end in
    record {
      low = last.among;
      lost = rw c.new-lost.ensures.items
          (unpersisted_none c.args.events.now c.args.ended.end c.args.ended.hart c.args.ended.begin _ last);
    }

pub loop-number-preserved : goal.loop-number-preserved
loop-number-preserved c =
    let before : c.loop-number.number - 1 ≤ length c.args.events.now = omega arith in
    let last = c.requires.stores.each (c.loop-number.number - 1) 0 before in
    let back : c.loop-number.number ≡ c.loop-number.number - 1 + 1 = omega arith in
    let lost : AreLostBehind c.args.events.now c.args.ended.end (IsUnpersisted c.args.events.now c.args.ended.end c.args.ended.hart c.args.ended.begin)
    (c.loop-number.number - 1 + 1) c.loop-number.lost.items = rw (← back) c.loop-number.invariant.lost in
    record {
      low = omega (arith, last.among);
      lost = rw c.in_ok-add.ensures
          (unpersisted_back c.args.events.now c.args.ended.end c.args.ended.hart c.args.ended.begin (c.loop-number.number - 1) _ c.loop-number.lost.items
          c.late_store.result (omega arith) last lost c.late_store.ensures);
    }

pub returns : goal.returns
returns c =
    let done : c.loop-number.number ≤ c.args.ended.begin = omega arith in
    unpersisted_losses c.args.events.now c.args.ended.end c.args.ended.hart c.args.ended.begin c.loop-number.number c.loop-number.lost.items
    c.first_of_each_line.new.lost.items done c.loop-number.invariant.lost c.first_of_each_line.ensures
