use Rattle.std.proofs.Common.{◌∙◌, Option, subst, sym}
use Rattle.std.proofs.lemmas.Bool.{MatchBool-at_true}
use Rattle.routine_judge.proofs.ClosingBoxes.{from_none, from_part, part_made_bad, part_made_well, part_named, part_size, sized_first, sized_rest}
use Rattle.routine_judge.specs.Closing.{IsJudgedAgain}
use Rattle.routine_judge.specs.CutsInRecovery.{IsAllowed}
use Rattle.routine_judge.specs.declared.cuts.judging.CutCause.{CutCause}
use Rattle.routine_judge.proofs.cuts.bound_boxes.BoundBoxes.close_part.Goals as goal

pub open_box-requires : goal.open_box-requires
open_box-requires c = c.requires.lines ∙ sym (sized_first c.args.self.now.lines c.args.images c.args.pending.now.items c.requires.sizes)

pub returns-in-Some-clause-ok : goal.returns-in-Some-clause-ok
returns-in-Some-clause-ok c =
    let run = c.in_ok-run.run' in
    let closing = c.args.closing.now in
    let bad = subst (λ (found : Option CutCause). IsJudgedAgain closing.rule.right.now closing.bound.shown run.found found) c.in-Some.is c.judge_again.ensures in
    part_made_bad c.args.routine.now.program closing c.args.self.now.lines c.args.self.now.boxes c.args.images c.open_box.new.images run.trace.events run.found c.in-Some.cause
    c.args.pending.now.items c.open_box.new.others.items c.in_ok-run.ensures.ok
    (sized_rest c.args.self.now.lines c.args.images c.args.pending.now.items c.open_box.new.others.items c.requires.sizes c.in_ok-run.ensures.sizes) bad

pub returns-then-is_past-clause-ok : goal.returns-then-is_past-clause-ok
returns-then-is_past-clause-ok c =
    let run = c.in_ok-run.run' in
    let closing = c.args.closing.now in
    let well = subst (λ (found : Option CutCause). IsJudgedAgain closing.rule.right.now closing.bound.shown run.found found) c.in_default.is c.judge_again.ensures in
    let past : ¬ IsAllowed closing.rule.most closing.bound.cuts =
    MatchBool-at_true (¬ IsAllowed closing.rule.most closing.bound.cuts) (IsAllowed closing.rule.most closing.bound.cuts) c.if-is_past.true c.is_past.ensures in
    part_made_well c.args.routine.now.program closing c.args.self.now.lines c.args.self.now.boxes c.args.images c.open_box.new.images run.trace.events run.found
    c.args.pending.now.items c.open_box.new.others.items c.in_ok-run.ensures.ok
    (sized_rest c.args.self.now.lines c.args.images c.args.pending.now.items c.open_box.new.others.items c.requires.sizes c.in_ok-run.ensures.sizes) well
    (λ few. absurd (past few))

pub cover_left-requires-clause-lines : goal.cover_left-requires-clause-lines
cover_left-requires-clause-lines c =
    let run = c.in_ok-run.run' in
    part_size c.args.routine.now.program c.args.closing.now.rule.steps c.args.images c.open_box.new.images run.trace.events run.found c.args.pending.now.items
    c.open_box.new.others.items c.in_ok-run.ensures.ok ∙ sized_first c.args.self.now.lines c.args.images c.args.pending.now.items c.requires.sizes

pub cover_left-requires-clause-named : goal.cover_left-requires-clause-named
cover_left-requires-clause-named c =
    let run = c.in_ok-run.run' in
    part_named c.args.routine.now.program c.args.closing.now.rule.steps c.args.images c.open_box.new.images run.trace.events run.found c.args.pending.now.items
    c.open_box.new.others.items c.in_ok-run.ensures.ok c.in_ok-run.ensures.named

pub returns-clause-ok : goal.returns-clause-ok
returns-clause-ok c =
    let run = c.in_ok-run.run' in
    let closing = c.args.closing.now in
    let well = subst (λ (found : Option CutCause). IsJudgedAgain closing.rule.right.now closing.bound.shown run.found found) c.in_default.is c.judge_again.ensures in
    part_made_well c.args.routine.now.program closing c.args.self.now.lines c.cover_left.new.self.boxes c.args.images c.open_box.new.images run.trace.events run.found
    c.args.pending.now.items c.open_box.new.others.items c.in_ok-run.ensures.ok
    (sized_rest c.args.self.now.lines c.args.images c.args.pending.now.items c.open_box.new.others.items c.requires.sizes c.in_ok-run.ensures.sizes) well
    (λ few. c.in_ok-cover_left.ensures.covered)

pub returns-in-Some-clause-grows : goal.returns-in-Some-clause-grows
returns-in-Some-clause-grows c =
    let closing = c.args.closing.now in
    from_none c.args.routine.now.program closing.rule.steps c.args.self.now.boxes closing.bound.cuts c.args.images closing.bound.shown

pub returns-then-is_past-clause-grows : goal.returns-then-is_past-clause-grows
returns-then-is_past-clause-grows c =
    let closing = c.args.closing.now in
    from_none c.args.routine.now.program closing.rule.steps c.args.self.now.boxes closing.bound.cuts c.args.images closing.bound.shown

pub returns-clause-grows : goal.returns-clause-grows
returns-clause-grows c =
    let run = c.in_ok-run.run' in
    let closing = c.args.closing.now in
    from_part c.args.routine.now.program closing.rule.steps c.args.images c.open_box.new.images run.trace.events run.found closing.bound.shown closing.bound.cuts
    c.args.self.now.boxes c.cover_left.new.self.boxes c.args.pending.now.items c.open_box.new.others.items c.in_ok-run.ensures.ok c.in_ok-cover_left.ensures.grows
