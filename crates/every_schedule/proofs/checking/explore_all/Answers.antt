use Rattle.std.proofs.lemmas.Result.{IfOk-weaker}
use Rattle.schedule_states.specs.Watching.{nothing}
use Rattle.every_schedule.specs.EverySchedule.{AllEndWell}
use Rattle.every_schedule.proofs.Judged.{all_can_end, all_end_well, all_pass, all_told}
use Rattle.every_schedule.proofs.checking.explore_all.Goals as goal

pub returns : goal.returns
returns g c = record {
  pass = IfOk-weaker c.explore.result _ _ (λ explored good. all_told explored _ _
      (λ all. all_pass c.args.plan.now.operations c.args.setup.now c.args.limits.any_end all.0) good) c.explore.ensures.good;
  whole = λ asked. IfOk-weaker c.explore.result _ _ (λ explored good. all_told explored _ _
      (λ all.
      let well : AllEndWell c.args.setup.now = all_end_well c.args.plan.now.operations c.args.setup.now c.args.limits.any_end all.0 asked in
      (well, all_can_end c.args.setup.now well (all.1 asked))) good) c.explore.ensures.good;
  stuck = IfOk-weaker c.explore.result _ _ (λ explored is. is.1) c.explore.ensures.requests;
  told = c.explore.ensures.told;
}

pub returns-in_err-workspace-clause-told : goal.returns-in_err-workspace-clause-told
returns-in_err-workspace-clause-told g c = nothing
