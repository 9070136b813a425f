use Rattle.std.proofs.Common.{List, take, subst}
use Rattle.std.proofs.lemmas.List.{take_all}
use Rattle.durability.proofs.MendLists.{last_more, last_none}
use Rattle.durability.specs.Mends.{IsAmong, IsLastIfAny}
use Rattle.durability.specs.declared.cut.Kept.{Kept}
use Rattle.durability.proofs.mend.last_kept.Goals as goal

pub loop-one-init : goal.loop-one-init
loop-one-init c = last_none

pub loop-one-preserved : goal.loop-one-preserved
loop-one-preserved c =
    let none : Kept = record { line = 0; store = 0 } in
    last_more c.args.kept.now c.loop-one.one-index none c.loop-one.last _ c.loop-one-test.true c.later.ensures c.loop-one.invariant

pub returns : goal.returns
returns c =
    subst (λ (kept : List Kept). IsLastIfAny (IsAmong kept) c.loop-one.last)
    (take_all c.loop-one.one-index c.args.kept.now c.loop-one-test.false) c.loop-one.invariant
