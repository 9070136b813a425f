use Rattle.std.proofs.Common.{ℕ, List, set, subst, sym}
use Rattle.verdict.specs.Numbers.{AreListed}
use Rattle.verdict.proofs.Listed.{number_listed}
use Rattle.verdict.proofs.branches.numbers.Numbers.raise.Goals as goal

pub invariant_of-self-then-index-eq0 : goal.invariant_of-self-then-index-eq0
invariant_of-self-then-index-eq0 c =
    subst (λ (xs : List ℕ). AreListed (set c.self.inside.by_line.items c.args.line c.args.number) xs) (sym c.in_ok-push.ensures.items)
    (number_listed c.self.inside.by_line.items c.self.inside.raised.items c.args.line c.args.number (rw (sym c.self.view_is) at c.requires) c.self.invariant)
