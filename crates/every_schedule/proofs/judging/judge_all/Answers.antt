use Rattle.std.proofs.lemmas.Result.{IfOk-weaker}
use Rattle.every_schedule.proofs.Answering.{all_answer_on_machines}
use Rattle.every_schedule.proofs.Judged.{all_passed}
use Rattle.every_schedule.specs.Sequential.{program_of}
use Rattle.routine_judge.specs.Views.{ProgramView}
use Rattle.schedule_states.specs.Watching.{nothing}
use Rattle.every_schedule.proofs.judging.judge_all.Goals as goal

pub returns-in_err-runs-clause-told : goal.returns-in_err-runs-clause-told
returns-in_err-runs-clause-told g c = nothing

pub returns-in-All-clause-survives : goal.returns-in-All-clause-survives
returns-in-All-clause-survives g c =
    let view : ProgramView = program_of c.args.setup c.args.recovery.program.now c.args.recovery.steps in
    IfOk-weaker c.judge_by.result _ _ (λ outcome all. all_passed outcome _ _ (λ passed. all_answer_on_machines view passed.0) all) c.judge_by.ensures.pass

pub returns-clause-told : goal.returns-clause-told
returns-clause-told g c = nothing
