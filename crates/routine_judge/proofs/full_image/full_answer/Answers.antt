use Rattle.std.proofs.Common.{◌∙◌, ap, refl, sym, List, ℕ, length}
use Rattle.std.proofs.lemmas.Result.{IfOk-weaker}
use Rattle.recovery.specs.Images.{AnswersOn}
use Rattle.recovery.specs.Routine.{Recovers}
use Rattle.routine_judge.proofs.Running.{recovered_shows}
use Rattle.routine_judge.proofs.full_image.full_answer.Goals as goal

pub run-requires : goal.run-requires
run-requires g c =
    let s = c.args.images.now in
    let images = g.I.Images in record {
      lines = ap (λ (lines : List (List ℕ)). length lines) c.new-image.ensures ∙ g.met.I.Images.count s (images.high s) ∙ sym c.requires;
    }

pub returns-clause-ok : goal.returns-clause-ok
returns-clause-ok g c =
    let s = c.args.images.now in
    let images = g.I.Images in
    IfOk-weaker c.run.result
    (Recovers c.args.routine.now.program c.new-image.result c.args.steps c.run.new.self.asked)
    (AnswersOn c.args.routine.now.program c.args.steps (images.image s (images.high s)))
    (λ found r. recovered_shows c.args.routine.now.program c.args.routine.now.program c.new-image.result (images.image s (images.high s)) c.args.steps
    c.run.new.self.asked found refl c.new-image.ensures r) c.run.ensures.ok
