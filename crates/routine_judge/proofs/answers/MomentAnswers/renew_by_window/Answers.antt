use Rattle.std.proofs.Common.{subst, sym}
use Rattle.routine_judge.proofs.Gathering.{answers_kept, kept_answers}
use Rattle.routine_judge.specs.Gathered.{AreKept}
use Rattle.routine_judge.specs.declared.history.moments.Window.{Window}
use Rattle.routine_judge.proofs.answers.MomentAnswers.renew_by_window.Goals as goal

pub returns-then-is_same-clause-right : goal.returns-then-is_same-clause-right
returns-then-is_same-clause-right c =
    let right = c.args.self.now.right in
    kept_answers c.args.run.now c.args.window c.args.moment right (c.is_fixed.ensures c.if-is_fixed.true)
    (subst (λ (w : Window). AreKept c.args.run.now w right) (sym (c.is_same.ensures c.if-is_same.true)) c.requires.kept)

pub returns-clause-kept : goal.returns-clause-kept
returns-clause-kept c = answers_kept c.args.run.now c.args.window c.args.moment c.gather.new.self.right c.in_ok-gather.ensures.right
