-- What a judge of moments knows where it stands.
use Rattle.std.specs.Prelude.{◌≡◌, ◌≤◌, Bool, true, IfSome, List, length, take}
use Rattle.std.specs.Result.{result_ok}
use Rattle.nova_log.specs.Volumes.{volume_of}
use Rattle.store_trace.specs.History.{at_moment}
use Rattle.image_check.specs.Branching.{AreKeptAt}
use Rattle.image_check.specs.Growth.{AreOutcomes}
use Rattle.image_check.specs.RunViews.{RunView}
use Rattle.image_check.specs.Verdicts.{AreFlagged, IsMomentVerdict}
use Rattle.image_check.specs.declared.moment_judge.MomentJudge.{MomentJudge}
use Rattle.image_check.specs.declared.moment_judge.Standing.{Standing}
use Rattle.verdict.specs.declared.moment_verdict.verdict.MomentVerdict.TheVariants as moments

-- The judge has what the legal volumes of its moment are made of, and keeps logs that recovery of the moment's images finds; where it knows that
-- the moment passes, each line that recovery asks there is flagged.
pub record IsStanding (run : RunView) (flags : List Bool) (standing : Standing) : Type 0 where
  pub there : standing.moment ≤ length run.events
  pub outcomes_are : AreOutcomes run.plan (result_ok (volume_of run.start)) (take standing.moment run.events)
      standing.outcomes.settled standing.outcomes.under_way.items
  pub kept : AreKeptAt run.start run.events standing.moment standing.workspace.kept
  pub passed : standing.passes ≡ true → AreFlagged run.start (at_moment run.events standing.moment) flags
      × IsMomentVerdict run.plan run.start (take standing.moment run.events) moments.Pass

-- What a worker keeps is of a medium as large as the one that the run started from, and where it stands, if it is known, it stands rightly.
pub record StandsIn (run : RunView) (judge : MomentJudge) : Type 0 where
  pub size : length judge.opener ≡ length run.start
  pub standing : IfSome judge.standing (IsStanding run judge.opener)
