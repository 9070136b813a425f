use Rattle.std.proofs.Common.{◌≡◌, ◌+◌, ◌++◌, length, List, subst, sym, arith}
use Rattle.std.specs.Prelude.{map}
use Rattle.durability.proofs.Endings.{AreEndsTo, ends_all, ends_more, ends_none, ends_stay, loss_of}
use Rattle.durability.specs.declared.ends.EndLoss.{EndLoss}
use Rattle.durability.proofs.ends.end_losses.Goals as goal
use Rattle.durability.proofs.ends.end_losses.Goals.{in-Some+in_ok-lost+in_ok-add_losses, in_default}

pub loop-at-init : goal.loop-at-init
loop-at-init c = record {
  under_way = c.none-under_way.ensures c.args.events.now;
  told = rw c.new-told.ensures.items (ends_none c.args.events.now);
}

pub loop-at-preserved : goal.loop-at-preserved
loop-at-preserved c = record {
  under_way = c.in_ok-ended.ensures.after;
  told = elim c.match-branch-3.branch [
    | in-Some+in_ok-lost+in_ok-add_losses w ↦
        let is = rw w.in-Some.is at c.in_ok-ended.ensures.ended in
        let more = ends_more c.args.events.now c.loop-at.at c.loop-at.told.items w.in-Some.ended w.in_ok-lost.lost.items is w.in_ok-lost.ensures c.loop-at.invariant.told in
        let items : c.match-branch-3.told.items ≡ c.loop-at.told.items ++ map (loss_of w.in-Some.ended) w.in_ok-lost.lost.items = cc (w.in_ok-add_losses.ensures, w.deref.ensures.value) in
        subst (λ (xs : List EndLoss). AreEndsTo c.args.events.now (c.loop-at.at + 1) xs) (sym items) more
    | in_default w ↦
        let is = rw w.in_default.is at c.in_ok-ended.ensures.ended in
        rw w.told-is (ends_stay c.args.events.now c.loop-at.at c.loop-at.told.items is c.loop-at.invariant.told)
  ];
}

pub returns : goal.returns
returns c =
    let all : c.loop-at.at ≡ length c.args.events.now = omega arith in
    ends_all c.args.events.now c.loop-at.told.items (rw all at c.loop-at.invariant.told)
