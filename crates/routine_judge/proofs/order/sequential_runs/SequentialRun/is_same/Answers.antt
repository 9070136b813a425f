use Rattle.std.proofs.Common.{◌≡◌, ◌∙◌, sym, true≢false}
use Rattle.routine_judge.proofs.Equal.{operations_told, told_operations}
use Rattle.routine_judge.proofs.order.sequential_runs.SequentialRun.is_same.Goals as goal

pub returns-then-eq : goal.returns-then-eq
returns-then-eq c =
    let one = c.operations.result.now in
    let other = c.operations-2.result.now in
    let same : one ≡ other = operations_told one other (sym c.eq.ensures ∙ c.if-eq.true) in (
      λ t. record { word = sym c.operations.ensures ∙ same ∙ c.operations-2.ensures; found = c.comes_to_same.ensures.0 t },
      λ s. c.comes_to_same.ensures.1 s.found,
    )

pub returns-else-eq : goal.returns-else-eq
returns-else-eq c =
    let one = c.operations.result.now in
    let other = c.operations-2.result.now in (
      λ t. absurd (true≢false (sym t ∙ c.if-eq.false)),
      λ s. c.eq.ensures ∙ told_operations one other (c.operations.ensures ∙ s.word ∙ sym c.operations-2.ensures),
    )
