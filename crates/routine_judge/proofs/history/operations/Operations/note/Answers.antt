use Rattle.std.proofs.Common.{inl, inr, refl}
use Rattle.routine_judge.proofs.Marked.{end_begun, end_marked, other_marked}
use Rattle.routine_judge.proofs.history.operations.Operations.note.Goals as goal

pub returns-in-End-clause-marked : goal.returns-in-End-clause-marked
returns-in-End-clause-marked c = λ before a twice unended.
    let pending = rw c.in-End.is at unended in
    rw c.in-End.is
    (end_marked before c.in-End.hart c.in-End.op c.args.self.now _ refl c.remove.ensures.updates
    (end_begun before c.args.self.now c.in-End.hart c.in-End.op a pending) a)

pub returns-in-Store-clause-marked : goal.returns-in-Store-clause-marked
returns-in-Store-clause-marked c = λ before a twice unended. elim c.in-Store.is [
  | inl stores ↦ other_marked before c.args.event c.args.self.now (rw stores.5 refl) (rw stores.5 refl) a
  | inr mark ↦ elim mark [
    | inl cleans ↦ other_marked before c.args.event c.args.self.now (rw cleans.2 refl) (rw cleans.2 refl) a
    | inr fences ↦ other_marked before c.args.event c.args.self.now (rw fences.1 refl) (rw fences.1 refl) a
  ]
]
