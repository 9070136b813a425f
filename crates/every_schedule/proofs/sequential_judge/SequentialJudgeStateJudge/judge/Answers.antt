use Rattle.std.proofs.Common.{ap, ◌∙◌, subst}
use Rattle.every_schedule.proofs.Sequencing.{noted_still, rest_noted, rests_not, still_noted}
use Rattle.every_schedule.specs.Sequential.{IsNewNote, program_of}
use Rattle.program.specs.Sections.{Sections}
use Rattle.routine_judge.specs.SequentialRuns.{notes_in}
use Rattle.routine_judge.specs.Views.{ProgramView, WorkspaceView}
use Rattle.schedule_states.specs.Images.{image_in}
use Rattle.every_schedule.proofs.sequential_judge.SequentialJudgeStateJudge.judge.Goals as goal

pub returns-then-not-is_at_rest-clause-good : goal.returns-then-not-is_at_rest-clause-good
returns-then-not-is_at_rest-clause-good g c told =
    let view : ProgramView = program_of c.args.self.now.setup.now c.args.self.now.recovery.now c.args.self.now.steps in
    rw c.in-Some.is (rests_not view c.args.images.now c.in-Some.state (notes_in c.args.notes.now.runs) c.is_at_rest.result c.is_at_rest.ensures c.if-not-is_at_rest.true)

pub returns-clause-good : goal.returns-clause-good
returns-clause-good g c told =
    let judge = c.args.self.now in
    let view : ProgramView = program_of judge.setup.now judge.recovery.now judge.steps in
    let noted = c.in_ok-note.ensures.noted in
    let new : IsNewNote judge.recovery.now judge.steps (image_in c.args.images.now (λ l. 0)) c.word.result.now noted.0 =
    subst (λ (p : Sections). IsNewNote p judge.steps (image_in c.args.images.now (λ l. 0)) c.word.result.now noted.0) c.requires.fits.0 noted.2 in
    rw c.in-Some.is (rest_noted view c.args.images.now c.in-Some.state c.word.result.now (notes_in c.note.new.self.runs) noted.0 c.word.ensures.word noted.1 new)

pub returns-clause-kept : goal.returns-clause-kept
returns-clause-kept g c =
    let judge = c.args.self.now in
    still_noted (program_of judge.setup.now judge.recovery.now judge.steps) (notes_in c.args.notes.now.runs) (notes_in c.note.new.self.runs) c.note.ensures.kept

pub returns-in_err-note-clause-kept : goal.returns-in_err-note-clause-kept
returns-in_err-note-clause-kept g c =
    let judge = c.args.self.now in
    still_noted (program_of judge.setup.now judge.recovery.now judge.steps) (notes_in c.args.notes.now.runs) (notes_in c.note.new.self.runs) c.note.ensures.kept

pub returns-clause-fits : goal.returns-clause-fits
returns-clause-fits g c =
    let judge = c.args.self.now in
    let view : ProgramView = program_of judge.setup.now judge.recovery.now judge.steps in (
      ap (λ (w : WorkspaceView). w.program) c.note.ensures.same ∙ c.requires.fits.0,
      ap (λ (w : WorkspaceView). w.lines) c.note.ensures.same ∙ c.requires.fits.1,
      noted_still view c.args.images.now c.in-Some.state c.word.result.now (notes_in c.args.notes.now.runs) (notes_in c.note.new.self.runs) c.args.notes.now.answers.program c.requires.fits.0
          (rw c.in-Some.is at c.requires.happens) (λ events is. (c.is_at_rest.ensures events is).0 c.if-not-is_at_rest.false) c.word.ensures.word c.note.ensures.only c.requires.fits.2,
    )

pub returns-in_err-note-clause-fits : goal.returns-in_err-note-clause-fits
returns-in_err-note-clause-fits g c =
    let judge = c.args.self.now in
    let view : ProgramView = program_of judge.setup.now judge.recovery.now judge.steps in (
      ap (λ (w : WorkspaceView). w.program) c.note.ensures.same ∙ c.requires.fits.0,
      ap (λ (w : WorkspaceView). w.lines) c.note.ensures.same ∙ c.requires.fits.1,
      noted_still view c.args.images.now c.in-Some.state c.word.result.now (notes_in c.args.notes.now.runs) (notes_in c.note.new.self.runs) c.args.notes.now.answers.program c.requires.fits.0
          (rw c.in-Some.is at c.requires.happens) (λ events is. (c.is_at_rest.ensures events is).0 c.if-not-is_at_rest.false) c.word.ensures.word c.note.ensures.only c.requires.fits.2,
    )
