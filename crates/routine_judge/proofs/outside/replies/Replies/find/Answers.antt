use Rattle.std.proofs.Common.{◌≡◌, ◌<◌, ◌≤◌, List, arith, length, subst, sym}
use Rattle.std.specs.List.{Contains}
use Rattle.std.proofs.lemmas.List.{take_all}
use Rattle.routine_judge.proofs.Marked.{not_true}
use Rattle.routine_judge.proofs.OutsideAgreeing.{none_more}
use Rattle.routine_judge.specs.Outside.{AgreesWith}
use Rattle.routine_judge.specs.OutsideViews.{KnownView}
use Rattle.routine_judge.proofs.outside.replies.Replies.find.Goals as goal

pub is_on-requires-clause-known : goal.is_on-requires-clause-known
is_on-requires-clause-known g c =
    let items = c.args.self.now.known.items in
    let less : c.loop-at.at < length items = omega (arith, c.loop-at-test.true, c.len-at-end.ensures) in
    c.requires.known.each c.index.result.now (c.loop-at.at, less, sym c.index.ensures)

pub loop-at-preserved : goal.loop-at-preserved
loop-at-preserved g c =
    let items = c.args.self.now.known.items in
    let index = c.args.index.now in
    let medium = g.S.Source.medium c.args.medium.now in
    let less : c.loop-at.at < length items = omega (arith, c.loop-at-test.true, c.len-at-end.ensures) in
    none_more index.start index.events medium items c.loop-at.at c.index.result.now less
    (λ agrees. not_true c.is_on.result c.if-is_on.false (c.is_on.ensures.1
    (subst (λ (known : KnownView). AgreesWith index.start index.events known medium) (sym c.index.ensures) agrees)))
    c.loop-at.invariant

pub returns-clause-none : goal.returns-clause-none
returns-clause-none g c = λ known there.
    let items = c.args.self.now.known.items in
    let past : length items ≤ c.loop-at.at = omega (arith, c.loop-at-test.false, c.len-at-end.ensures) in
    c.loop-at.invariant known (subst (λ (ks : List KnownView). Contains ks known) (sym (take_all c.loop-at.at items past)) there)
