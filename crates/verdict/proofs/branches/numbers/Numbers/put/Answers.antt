use Rattle.std.proofs.Common.{◌<◌, ℕ, List, length, set, subst, sym, ◌∙◌}
use Rattle.verdict.specs.Numbers.{AreListed}
use Rattle.verdict.proofs.Listed.{index_same, number_kept, number_listed}
use Rattle.verdict.proofs.branches.numbers.Numbers.put.Goals as goal
use Rattle.verdict.proofs.branches.numbers.Numbers.put.Goals.{then-before-eq0+in_ok-push, else-before-eq0}

pub invariant_of-self-2 : goal.invariant_of-self-2
invariant_of-self-2 c =
    let numbers : List ℕ = c.self.inside.by_line.items in
    let line : ℕ = c.args.line in
    let there : line < length numbers = rw (sym c.self.view_is) at c.requires in
    elim c.if-before-eq0.branch [
      | then-before-eq0+in_ok-push w ↦
          rw w.self-inside-is (subst (λ (ls : List ℕ). AreListed (set numbers line c.args.number) ls) (sym w.in_ok-push.ensures.items)
          (number_listed numbers c.self.inside.raised.items line c.args.number there c.self.invariant))
      | else-before-eq0 w ↦
          rw w.self-inside-is (number_kept numbers c.self.inside.raised.items line c.args.number (λ z. w.if-before-eq0.false (c.index-before.ensures ∙ index_same numbers line c.index-before.result.now 0 there ∙ z)) c.self.invariant)
    ]
