use Rattle.std.proofs.Common.{rules}
use Rattle.unfinished.proofs.Loops.{planned_push, planned_skip}
use Rattle.unfinished.proofs.operations.note_missing.Goals as goal
use Rattle.unfinished.proofs.operations.note_missing.Goals.{then-not-contains+in_ok-push, else-not-contains}

pub loop-operation-preserved : goal.loop-operation-preserved
loop-operation-preserved c = elim c.if-not-contains.branch [
  | then-not-contains+in_ok-push w ↦
      planned_push c.args.begun.now c.args.planned.now c.loop-operation.operation-index c.operation-item.result c.contains.result
      c.args.numbers.now.items c.loop-operation.numbers.items c.if-not-contains.numbers.items c.loop-operation-test.true c.operation-item.is
      c.contains.ensures.value w.if-not-contains.true c.loop-operation.invariant (rw w.numbers-is (search rules))
  | else-not-contains w ↦
      planned_skip c.args.begun.now c.args.planned.now c.loop-operation.operation-index c.operation-item.result c.contains.result
      c.args.numbers.now.items c.loop-operation.numbers.items c.if-not-contains.numbers.items c.loop-operation-test.true c.operation-item.is
      c.contains.ensures.value w.if-not-contains.false c.loop-operation.invariant (rw w.numbers-is (search rules))
]
