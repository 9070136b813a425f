use Rattle.std.proofs.Common.{ℕ, subst}
use Rattle.image_check.specs.Verdicts.{judged_at}
use Rattle.image_check.proofs.moment_judge.SoundRunMoments.judge_moment.Goals as goal

pub returns-clause-ok : goal.returns-clause-ok
returns-clause-ok g c =
    let run = c.args.self.now in
    subst (λ (m : ℕ). judged_at run.plan run.start run.events m c.in_ok-verdict.verdict) c.in_ok-advance.ensures.moment c.in_ok-verdict.ensures.ok
