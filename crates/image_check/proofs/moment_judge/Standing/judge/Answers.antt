use Rattle.std.proofs.Common.{◌≡◌, ℕ, arith, sym, subst, take}
use Rattle.std.specs.Result.{result_ok}
use Rattle.nova_log.specs.Volumes.{volume_of}
use Rattle.store_trace.specs.History.{at_moment}
use Rattle.verdict.specs.Verdicts.{IfPassed}
use Rattle.verdict.specs.declared.moment_verdict.verdict.MomentVerdict.{MomentVerdict}
use Rattle.verdict.specs.declared.moment_verdict.verdict.MomentVerdict.TheVariants as moments
use Rattle.image_check.specs.Branching.{AreKeptAt}
use Rattle.image_check.specs.Growth.{AreOutcomes}
use Rattle.image_check.specs.Verdicts.{AreFlagged, IsMomentVerdict}
use Rattle.image_check.specs.declared.cause.Cause.{Cause}
use Rattle.image_check.specs.declared.legal.Outcomes.{Outcomes}
use Rattle.image_check.proofs.moment_judge.Standing.judge.Goals as goal

pub returns-clause-standing : goal.returns-clause-standing
returns-clause-standing g c =
    let run = c.args.run.now in
    let old = c.args.self.now in
    let new = c.open_at.new.standing in
    let flags = c.open_at.new.opener in
    let moment = sym c.open_at.ensures.moment in
    let outcomes = sym c.open_at.ensures.outcomes in
    record {
      there = omega (arith, c.open_at.ensures.moment, c.requires.standing.there);
      outcomes_are =
          subst (λ (m : ℕ). AreOutcomes run.plan (result_ok (volume_of run.start)) (take m run.events) new.outcomes.settled new.outcomes.under_way.items) moment
          (subst (λ (o : Outcomes). AreOutcomes run.plan (result_ok (volume_of run.start)) (take old.moment run.events) o.settled o.under_way.items) outcomes
          c.requires.standing.outcomes_are);
      kept = subst (λ (m : ℕ). AreKeptAt run.start run.events m new.workspace.kept) moment c.open_at.ensures.kept;
      passed = λ is.
          let pass : c.in_ok-verdict.verdict ≡ moments.Pass = c.is_pass-self.ensures.0 is in
          subst (λ (m : ℕ). AreFlagged run.start (at_moment run.events m) flags × IsMomentVerdict run.plan run.start (take m run.events) moments.Pass) moment (
            subst (λ (v : MomentVerdict Cause). IfPassed v (AreFlagged run.start (at_moment run.events old.moment) flags)) pass c.in_ok-verdict.ensures.asked,
            subst (λ (v : MomentVerdict Cause). IsMomentVerdict run.plan run.start (take old.moment run.events) v) pass c.in_ok-verdict.ensures.ok,
          );
    }
