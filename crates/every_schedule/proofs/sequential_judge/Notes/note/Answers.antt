use Rattle.std.proofs.Common.{◌∙◌, subst}
use Rattle.std.proofs.lemmas.Result.{on_ok_weaker}
use Rattle.every_schedule.proofs.Sequencing.{added_noted, added_only}
use Rattle.every_schedule.specs.Sequential.{IsNewNote}
use Rattle.recovery.specs.Images.{AnswersOn}
use Rattle.routine_judge.specs.SequentialRuns.{notes_in}
use Rattle.routine_judge.specs.declared.order.sequential_runs.SequentialRun.{SequentialRun}
use Rattle.schedule_states.specs.Images.{image_in}
use Rattle.schedule_states.specs.Memories.{MemoryView}
use Rattle.every_schedule.proofs.sequential_judge.Notes.note.Goals as goal

pub returns-clause-noted : goal.returns-clause-noted
returns-clause-noted c =
    let program = c.args.self.now.answers.program in
    let note : SequentialRun = record { word = c.in_ok-word.word; found = c.in_ok-found.found } in
    let is : IsNewNote program c.args.steps (image_in c.args.images.now (λ l. 0)) c.args.word.now note = record {
      word_is = c.in_ok-word.ensures ∙ c.operations.ensures;
      shows = subst (λ (m : MemoryView). AnswersOn program c.args.steps (image_in m (λ l. 0)) c.in_ok-found.found) c.new.ensures c.in_ok-found.ensures.ok;
    } in
    on_ok_weaker c.add.result (added_noted program c.args.steps (image_in c.args.images.now (λ l. 0)) c.args.word.now note (notes_in c.add.new.self) is) c.add.ensures.there

pub returns-clause-only : goal.returns-clause-only
returns-clause-only c =
    let program = c.args.self.now.answers.program in
    let note : SequentialRun = record { word = c.in_ok-word.word; found = c.in_ok-found.found } in
    let is : IsNewNote program c.args.steps (image_in c.args.images.now (λ l. 0)) c.args.word.now note = record {
      word_is = c.in_ok-word.ensures ∙ c.operations.ensures;
      shows = subst (λ (m : MemoryView). AnswersOn program c.args.steps (image_in m (λ l. 0)) c.in_ok-found.found) c.new.ensures c.in_ok-found.ensures.ok;
    } in
    added_only program c.args.steps (image_in c.args.images.now (λ l. 0)) c.args.word.now note (notes_in c.args.self.now.runs) (notes_in c.add.new.self) is c.add.ensures.only
