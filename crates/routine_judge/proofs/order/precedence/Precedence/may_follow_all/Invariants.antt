use Rattle.std.proofs.Common.{◌≡◌, ℕ, ◌<◌, take, Some}
use Rattle.std.specs.Prelude.{slice_get}
use Rattle.routine_judge.specs.Fitting.{MayFollow}
use Rattle.routine_judge.specs.Order.{AreInOrder, operations_in}
use Rattle.routine_judge.specs.declared.order.operation.Operation.{Operation}
use Rattle.routine_judge.proofs.order.precedence.Precedence.may_follow_all.Given as goal

abbrev pub invariant-loop-at : goal.invariant-loop-at
invariant-loop-at l =
    AreInOrder (operations_in l.self) → (k : ℕ) (next : Operation) → k < l.at → slice_get l.word k ≡ Some next →
    MayFollow (operations_in l.self) (take k l.word) next
