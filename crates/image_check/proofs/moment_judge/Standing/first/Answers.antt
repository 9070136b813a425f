use Rattle.std.proofs.Common.{◌∙◌, ap, subst, arith, List, [], Option}
use Rattle.std.specs.Result.{result_ok}
use Rattle.nova_log.specs.Volumes.{volume_of}
use Rattle.nova_log.specs.declared.volume.entry.Entry.{Entry}
use Rattle.image_check.specs.Growth.{AreOutcomes}
use Rattle.image_check.specs.RunViews.{RunView}
use Rattle.verdict.specs.CutImages.{image_at}
use Rattle.image_check.proofs.moment_judge.Standing.first.Goals as goal

pub returns-clause-standing : goal.returns-clause-standing
returns-clause-standing c =
    let started = c.in_ok-before.ensures ∙ c.run.invariant.2 ∙ ap (λ (v : RunView). result_ok (volume_of v.start)) c.run.view_is in
    record {
      there = omega arith;
      outcomes_are =
          subst (λ (start : Option (List (List Entry))). AreOutcomes c.args.run.now.plan start [] c.new.result.settled c.new.result.under_way.items)
          started (c.new.ensures c.args.run.now.plan);
      kept = λ k within. c.new-2.ensures (image_at c.args.run.now.start c.args.run.now.events 0 k);
      passed = λ e. absurd cc;
    }
