use Rattle.std.proofs.Common.{◌++◌, replicate, ap, sym, ◌∙◌, arith}
use Rattle.std.proofs.lemmas.List.{length-replicate}
use Rattle.machine.specs.declared.schedule.items.Step.TheVariants.{Hart}
use Rattle.witness.specs.Walking.{StepsView}
use Rattle.witness.proofs.Lists.{takes_all, takes_more}
use Rattle.witness.proofs.recorded_steps.RecordedSteps.copy_through.Goals as goal

pub returns-in_default-clause-copied : goal.returns-in_default-clause-copied
returns-in_default-clause-copied c =
    let now = ap (λ (s : StepsView). s.taken) c.self.view_is in
    let less = c.loop-self-test.true in
    takes_all _ _ _ _ _ c.loop-self.invariant.0 (omega arith) c.in_default.ensures.none
    (ap (λ (s : StepsView). s.left) c.self-in-loop-self.view_is ∙ c.in_default.ensures.left)

pub loop-self-preserved : goal.loop-self-preserved
loop-self-preserved c =
    let size = length-replicate c.in-Some.count (Hart c.in-Some.hart) in
    let taken = ap (λ (s : StepsView). s.taken) c.self-in-loop-self.view_is in
    let same = c.in-Some.ensures.taken in
    let few = c.in-Some.ensures.some.1 in
    let less = c.loop-self-test.true in
    let now = ap (λ (s : StepsView). s.taken) c.self.view_is in
    let before = ap (λ (s : StepsView). s.taken) c.next_run.view_is in (
      takes_more _ _ _ _ _ _ _ c.loop-self.invariant.0 (omega arith)
          (c.in-Some.ensures.some.2 ∙ ap (λ (s : StepsView). replicate c.in-Some.count (Hart c.in-Some.hart) ++ s.left) (sym c.self-in-loop-self.view_is))
          c.in_ok-push_steps.ensures.ok,
      omega arith,
      λ all. c.in_ok-push_steps.ensures.items (c.loop-self.invariant.2 all),
    )
