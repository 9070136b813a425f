use Rattle.std.proofs.Common.{true≢false, sym, ap, ◌∙◌}
use Rattle.every_schedule.proofs.Answering.{cuts_right, none_right, some_begins}
use Rattle.every_schedule.proofs.Knowing.{right_found}
use Rattle.every_schedule.specs.Sequential.{program_of}
use Rattle.routine_judge.specs.SequentialRuns.{notes_in}
use Rattle.routine_judge.specs.Views.{ProgramView, WorkspaceView}
use Rattle.every_schedule.proofs.atomic_judge.AtomicJudgeStateJudge.judge.Goals as goal

pub returns-then-is_empty-clause-good : goal.returns-then-is_empty-clause-good
returns-then-is_empty-clause-good g c told =
    let judge = c.args.self.now in
    let view : ProgramView = program_of judge.setup.now judge.recovery.program.now judge.recovery.steps in
    none_right view (notes_in judge.runs.now) c.args.standing.now c.args.images.now (λ events is. (c.is_empty.ensures events is).0 c.if-is_empty.true)

pub returns-clause-good : goal.returns-clause-good
returns-clause-good g c told =
    let judge = c.args.self.now in
    let view : ProgramView = program_of judge.setup.now judge.recovery.program.now judge.recovery.steps in
    cuts_right view (notes_in judge.runs.now) c.args.standing.now c.behind-right.result.now c.args.images.now c.new-cuts.result.images.now _ c.in_ok-verdict.verdict c.new-cuts.ensures
    (c.verdict_of.ensures told)
    (right_found (notes_in judge.runs.now) c.note.new.self c.args.standing.now c.behind-right.result.now c.behind-right.ensures c.note.ensures.kept)
    c.in_ok-verdict.ensures.ok

pub returns-clause-fits : goal.returns-clause-fits
returns-clause-fits g c = (
  ap (λ (w : WorkspaceView). w.program) c.judge_images.ensures.same ∙ c.requires.fits.0,
  ap (λ (w : WorkspaceView). w.lines) c.judge_images.ensures.same ∙ c.requires.fits.1,
  λ has. some_begins c.args.self.now.setup.now c.args.standing.now c.args.images.now c.requires.happens
      (λ events is none. true≢false (sym ((c.is_empty.ensures events is).1 none) ∙ c.if-is_empty.false)),
  c.note.ensures.kept,
)
