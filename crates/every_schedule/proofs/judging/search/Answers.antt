use Rattle.std.proofs.Common.{refl}
use Rattle.every_schedule.proofs.Answering.{all_answer, all_ends}
use Rattle.every_schedule.proofs.Judged.{all_can_end, all_told}
use Rattle.every_schedule.specs.EverySchedule.{AllEndWell}
use Rattle.routine_judge.specs.SequentialRuns.{notes_in}
use Rattle.schedule_states.specs.Watching.{nothing}
use Rattle.every_schedule.proofs.judging.search.Goals as goal

pub explore-requires-clause-happens : goal.explore-requires-clause-happens
explore-requires-clause-happens g c κs ends end led = record { steps = led.steps; end = end; runs = led.runs; events_are = refl }

pub returns : goal.returns
returns g c =
    let judge = c.args.judge in
    let program = judge.recovery.program.now in
    let notes = notes_in judge.runs.runs.now in record {
      pass = all_told c.in_ok-explored.explored _ _
          (λ good. all_answer c.args.setup.now program judge.recovery.steps notes c.args.limits.any_end good.0 c.requires.runs.noted) c.in_ok-explored.ensures.good;
      begins = c.explore.ensures.kept.0.2;
      whole = λ asked. all_told c.in_ok-explored.explored _ _
          (λ good.
          let well : AllEndWell c.args.setup.now = all_ends c.args.setup.now program judge.recovery.steps notes c.args.limits.any_end good.0 asked in
          (well, all_can_end c.args.setup.now well (good.1 asked))) c.in_ok-explored.ensures.good;
      stuck = c.in_ok-explored.ensures.requests.1;
      told = c.explore.ensures.told;
    }

pub returns-in_err-notes-clause-told : goal.returns-in_err-notes-clause-told
returns-in_err-notes-clause-told g c = nothing
