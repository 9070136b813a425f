use Rattle.std.proofs.Common.{◌≡◌, ◌∙◌, ◌<◌, ◌++◌, ap, subst, sym, List, [], ℕ, length}
use Rattle.std.specs.List.{AllByRecursion}
use Rattle.recovery.specs.Images.{AsksOn}
use Rattle.routine_judge.proofs.Running.{recovered_asks, recovered_shows}
use Rattle.verdict.specs.Numbers.{number_over}
use Rattle.verdict.specs.declared.branches.question.Question.{Question}
use Rattle.routine_judge.proofs.answer_images.AnswerImagesRecovery.recover.Goals as goal

-- what is asked where nothing was before is below as many lines
asked_below : (ours lines count : ℕ) (old new more asked : List Question) → ours ≡ lines → lines ≡ count → old ≡ [] → new ≡ old ++ more → more ≡ asked →
    AllByRecursion (λ q. q.line < ours) asked → AllByRecursion (λ q. q.line < count) new
asked_below ours lines count old new more asked o n none grown same h =
    subst (λ (qs : List Question). AllByRecursion (λ q. q.line < count) qs)
    (sym (grown ∙ ap (λ (qs : List Question). qs ++ more) none ∙ same))
    (subst (λ (k : ℕ). AllByRecursion (λ q. q.line < k) asked) (o ∙ n) h)

pub run-requires : goal.run-requires
run-requires g c =
    let s = c.args.self.now in
    let images = g.I.Images in record {
      lines = ap (λ (lines : List (List ℕ)). length lines) c.new-image.ensures
          ∙ g.met.I.Images.count s.images.now (number_over (images.low s.images.now) c.args.numbers.now) ∙ sym c.requires.fits.1;
    }

pub returns-clause-asked : goal.returns-clause-asked
returns-clause-asked g c =
    let s = c.args.self.now in
    let images = g.I.Images in
    let k = number_over (images.low s.images.now) c.args.numbers.now in
    let all = c.in_ok-extend_from_slice.ensures.items ∙ ap (λ (qs : List Question). qs ++ c.asked.result.now) c.requires.fresh ∙ c.asked.ensures.asked in
    subst (λ (qs : List Question). AsksOn s.program.now s.steps (images.image s.images.now k) qs) (sym all)
    (recovered_asks c.args.routine.now.program s.program.now c.new-image.result (images.image s.images.now k) s.steps c.run.new.self.asked c.in_ok-found.found
    c.requires.fits.0 c.new-image.ensures c.in_ok-found.ensures.ok)

pub returns-clause-judged : goal.returns-clause-judged
returns-clause-judged g c =
    let s = c.args.self.now in
    let images = g.I.Images in
    let k = number_over (images.low s.images.now) c.args.numbers.now in (
      c.in_ok-found.found,
      recovered_shows c.args.routine.now.program s.program.now c.new-image.result (images.image s.images.now k) s.steps c.run.new.self.asked c.in_ok-found.found
          c.requires.fits.0 c.new-image.ensures c.in_ok-found.ensures.ok,
      c.judge.ensures,
    )

pub returns-clause-below : goal.returns-clause-below
returns-clause-below g c =
    asked_below c.run.new.self.lines c.args.routine.now.lines (g.I.Images.lines c.args.self.now.images.now) c.args.asked.now.items c.extend_from_slice.new.self.items
    c.asked.result.now c.run.new.self.asked c.in_ok-found.ensures.lines c.requires.fits.1 c.requires.fresh c.in_ok-extend_from_slice.ensures.items
    c.asked.ensures.asked c.asked.ensures.below
