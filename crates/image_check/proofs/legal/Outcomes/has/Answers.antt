use Rattle.std.proofs.Common.{◌≡◌, List, [], Option, Some, map, sym, ap, subst, true≢false}
use Rattle.std.specs.Prelude.{filter}
use Rattle.std.specs.List.{flat_map}
use Rattle.std.specs.Result.{result_ok}
use Rattle.nova_log.specs.declared.volume.entry.Entry.{Entry}
use Rattle.image_check.specs.Growth.{AreOutcomes, is_shown}
use Rattle.image_check.specs.Legal.{with_entries}
use Rattle.image_check.specs.Planned.{planned}
use Rattle.image_check.specs.declared.legal.UnderWay.{UnderWay}
use Rattle.image_check.proofs.Judging.{compared_legal, none_legal}
use Rattle.image_check.proofs.legal.Outcomes.has.Goals as goal

pub returns-in_default : goal.returns-in_default
returns-in_default c = λ start events o a. (
  λ f. absurd (true≢false (sym f)),
  λ l. absurd (none_legal c.args.plan.now.operations start events c.args.volume.now c.args.self.now.under_way.items
      (subst (λ (s : Option (List (List Entry))). AreOutcomes c.args.plan.now.operations (result_ok start) events s c.args.self.now.under_way.items) c.in_default.is o) l),
)

pub returns : goal.returns
returns c = λ start events o a.
    compared_legal c.args.plan.now.operations start events c.in-Some.settled c.args.volume.now c.in_ok-expected.expected c.args.self.now.under_way.items c.equals-2.result
    (subst (λ (s : Option (List (List Entry))). AreOutcomes c.args.plan.now.operations (result_ok start) events s c.args.self.now.under_way.items) c.in-Some.is o)
    a
    (subst (λ (ops : List UnderWay). with_entries c.in-Some.settled (flat_map (planned c.args.plan.now.operations)
    (filter (λ op. is_shown c.in-Some.settled c.args.volume.now (planned c.args.plan.now.operations op)) (map (λ u. u.op) ops))) ≡ Some c.in_ok-expected.expected)
    c.as_slice-under_way.ensures.value c.in_ok-expected.ensures)
    c.equals-2.ensures

pub returns-then-not-any_shown : goal.returns-then-not-any_shown
returns-then-not-any_shown c = λ start events o a.
    let none : flat_map (planned c.args.plan.now.operations)
    (filter (λ op. is_shown c.in-Some.settled c.args.volume.now (planned c.args.plan.now.operations op)) (map (λ u. u.op) c.as_slice-under_way.result.now)) ≡ [] =
    ap (flat_map (planned c.args.plan.now.operations)) (c.any_shown.ensures c.if-not-any_shown.true) in
    compared_legal c.args.plan.now.operations start events c.in-Some.settled c.args.volume.now c.in-Some.settled c.args.self.now.under_way.items c.equals.result
    (subst (λ (s : Option (List (List Entry))). AreOutcomes c.args.plan.now.operations (result_ok start) events s c.args.self.now.under_way.items) c.in-Some.is o)
    a
    (subst (λ (ops : List UnderWay). with_entries c.in-Some.settled (flat_map (planned c.args.plan.now.operations)
    (filter (λ op. is_shown c.in-Some.settled c.args.volume.now (planned c.args.plan.now.operations op)) (map (λ u. u.op) ops))) ≡ Some c.in-Some.settled)
    c.as_slice-under_way.ensures.value (ap (with_entries c.in-Some.settled) none))
    c.equals.ensures
