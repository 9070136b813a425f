use Rattle.std.proofs.Common.{inl, inr, refl, ap}
use Rattle.routine_judge.proofs.Sourcing.{basis_source}
use Rattle.routine_judge.proofs.WidePassing.{wide_judged}
use Rattle.routine_judge.specs.declared.cuts.wide.WidePass.{WidePass}
use Rattle.routine_judge.specs.Standing.{source_at}
use Rattle.routine_judge.specs.Views.{JudgeView}
use Rattle.routine_judge.proofs.cuts.run.open_cuts.Goals as goal

pub returns-then-judge-clause-ok : goal.returns-then-judge-clause-ok
returns-then-judge-clause-ok c =
    let view = c.args.run.now in
    let window = c.renew.new.self.window in
    record {
      source = source_at view window c.args.moment;
      is_source = basis_source view.right view window c.args.moment c.in_ok-renew.ensures.basis;
      judged = inl (refl, c.in_ok-renew.ensures.right.on c.if-judge.true);
    }

pub are_closed-requires-clause-there : goal.are_closed-requires-clause-there
are_closed-requires-clause-there c = c.widest-wide.ensures.there

pub are_closed-requires-clause-steps : goal.are_closed-requires-clause-steps
are_closed-requires-clause-steps c = ap (λ (v : JudgeView). v.steps) c.run.view_is

pub judge_by-requires-clause-steps : goal.judge_by-requires-clause-steps
judge_by-requires-clause-steps c = ap (λ (v : JudgeView). v.steps) c.run.view_is

pub returns-then-closed-clause-wide : goal.returns-then-closed-clause-wide
returns-then-closed-clause-wide c =
    let view = c.args.run.now in
    let m = c.args.moment in
    let window = c.renew.new.self.window in
    let right = c.in_ok-renew.ensures.right in
    record {
      ahead = c.widest-wide.ensures;
      is_basis = c.in_ok-renew.ensures.basis;
      ends = right.ends c.if-judge.false;
      answers = c.in_ok-closed.ensures.ok c.if-closed.true (source_at view window m) right;
    }

pub returns-then-closed-clause-ok : goal.returns-then-closed-clause-ok
returns-then-closed-clause-ok c =
    let view = c.args.run.now in
    let m = c.args.moment in
    let window = c.renew.new.self.window in
    let pass : WidePass = record { moment = m; wide = c.widest-wide.result } in
    wide_judged c.args.most view window pass m refl (returns-then-closed-clause-wide c)

pub returns-clause-ok : goal.returns-clause-ok
returns-clause-ok c =
    let view = c.args.run.now in
    let m = c.args.moment in
    let source = source_at view c.renew.new.self.window m in
    record {
      source = source;
      is_source = basis_source view.right view c.renew.new.self.window m c.in_ok-renew.ensures.basis;
      judged = inr (c.in_ok-renew.ensures.right.ends c.if-judge.false, c.in_ok-verdict.ensures.ok source c.in_ok-renew.ensures.right);
    }
