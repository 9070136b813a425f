use Rattle.std.proofs.Common.{◌+◌, subst, arith, length, take, List, Option}
use Rattle.std.specs.Prelude.{slice_index_or}
use Rattle.std.specs.Result.{result_ok}
use Rattle.nova_log.specs.Volumes.{volume_of}
use Rattle.store_trace.specs.declared.event.Event.TheVariants.{Fence}
use Rattle.nova_log.specs.declared.volume.entry.Entry.{Entry}
use Rattle.image_check.specs.Branching.{AreKeptAt}
use Rattle.image_check.specs.Growth.{AreOutcomes}
use Rattle.image_check.specs.Keeping.{KeepsPass}
use Rattle.image_check.specs.OrderFaults.{AreSound}
use Rattle.image_check.specs.RunViews.{RunView}
use Rattle.image_check.proofs.Standing.{passed_next}
use Rattle.image_check.proofs.moment_judge.Standing.step.Goals as goal

pub returns-clause-standing : goal.returns-clause-standing
returns-clause-standing c =
    let run = c.args.run.now in
    let old = c.args.self.now in
    let new = c.note_next.new.outcomes in
    let sound = subst (λ (v : RunView). AreSound v.plan v.events (length v.events)) c.run.view_is c.run.invariant.1 in
    let noted =
    subst
    (λ (v : RunView). (start : Option (List (List Entry))) →
    AreOutcomes v.plan start (take old.moment v.events) old.outcomes.settled old.outcomes.under_way.items →
    AreOutcomes v.plan start (take (old.moment + 1) v.events) new.settled new.under_way.items)
    c.run.view_is c.in_ok-note_next.ensures in
    record {
      there = omega arith;
      outcomes_are = noted (result_ok (volume_of run.start)) c.requires.standing.outcomes_are;
      kept = subst (λ (v : RunView). AreKeptAt run.start v.events old.moment old.workspace.kept → AreKeptAt run.start v.events (old.moment + 1) c.leave_next.new.workspace.kept) c.run.view_is
          (c.leave_next.ensures run.start) c.requires.standing.kept;
      passed = λ is.
          let still = c.still_passes-passes.ensures is in
          passed_next run c.args.opener.now old (Fence 0) c.requires.there sound c.requires.standing still.0
          (subst (λ (v : RunView). KeepsPass c.args.opener.now (slice_index_or v.events old.moment (Fence 0))) c.run.view_is (still.1 (Fence 0)));
    }
