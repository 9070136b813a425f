-- What a judge of moments with power cuts in recovery knows.
use Rattle.std.specs.Prelude.{ℕ, Option, IfSome}
use Rattle.routine_judge.specs.Standing.{StandsIn}
use Rattle.routine_judge.specs.Views.{JudgeView}
use Rattle.routine_judge.specs.WidePasses.{IsPassedBy}
use Rattle.routine_judge.specs.declared.cuts.run.CutJudge.{CutJudge}

-- what a worker keeps is right, and the moment that was judged last passes where it says so
pub record StandsWith (most : Option ℕ) (view : JudgeView) (judge : CutJudge) : Type 0 where
  pub stands : StandsIn view judge.judge
  pub passed : IfSome judge.passed (IsPassedBy most view judge.judge.answers.window)
