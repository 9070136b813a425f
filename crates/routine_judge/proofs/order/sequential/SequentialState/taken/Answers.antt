use Rattle.std.proofs.Common.{inl, inr, refl}
use Rattle.routine_judge.proofs.Sequencing.{begin_state, end_state, other_state}
use Rattle.routine_judge.proofs.order.sequential.SequentialState.taken.Goals as goal

pub returns-in_ok-done-in-Begin : goal.returns-in_ok-done-in-Begin
returns-in_ok-done-in-Begin c = λ events is none.
    let faultless = rw c.in-Begin.is at none in
    rw c.in-Begin.is (begin_state events c.in-Begin.hart c.in-Begin.op c.args.self.now _ faultless c.in_ok-done-in-Begin.ensures refl is)

pub returns-in_ok-done-in-End : goal.returns-in_ok-done-in-End
returns-in_ok-done-in-End c = λ events is none.
    let faultless = rw c.in-End.is at none in
    rw c.in-End.is (end_state events c.in-End.hart c.in-End.op c.args.self.now _ faultless c.in_ok-done-in-End.ensures refl is)

pub returns-in_ok-done-in-Store : goal.returns-in_ok-done-in-Store
returns-in_ok-done-in-Store c = λ events is none. elim c.in-Store.is [
  | inl stores ↦ other_state events c.args.mark c.args.self.now _ (rw stores.5 refl) (rw stores.5 refl) c.in_ok-done-in-Store.ensures refl is
  | inr mark ↦ elim mark [
    | inl cleans ↦ other_state events c.args.mark c.args.self.now _ (rw cleans.2 refl) (rw cleans.2 refl) c.in_ok-done-in-Store.ensures refl is
    | inr fences ↦ other_state events c.args.mark c.args.self.now _ (rw fences.1 refl) (rw fences.1 refl) c.in_ok-done-in-Store.ensures refl is
  ]
]
