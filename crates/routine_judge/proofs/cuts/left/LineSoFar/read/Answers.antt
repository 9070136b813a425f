use Rattle.std.proofs.Common.{refl}
use Rattle.routine_judge.proofs.Afters.{after_store}
use Rattle.routine_judge.proofs.cuts.left.LineSoFar.read.Goals as goal

pub returns-clause-made : goal.returns-clause-made
returns-clause-made c = λ start p s.
    rw c.in-Store.is
    (after_store start p c.args.self.now _ c.in-Store.hart c.in-Store.line c.in-Store.offset c.in-Store.width c.in-Store.value
    c.if-line-self.false refl refl c.store_bytes.ensures s)
