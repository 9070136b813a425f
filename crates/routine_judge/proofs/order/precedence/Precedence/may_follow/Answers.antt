use Rattle.std.proofs.Common.{◌∙◌, List, ap, sym, true≢false, ℕ}
use Rattle.std.specs.List.{list_all}
use Rattle.routine_judge.proofs.Entering.{follows_not, follows_so}
use Rattle.routine_judge.specs.Fitting.{has}
use Rattle.routine_judge.specs.Order.{begun_of, operations_in}
use Rattle.routine_judge.proofs.order.precedence.Precedence.may_follow.Goals as goal

pub returns-in-Some : goal.returns-in-Some
returns-in-Some c = λ h.
    let its = c.in-Some.ensures h in
    follows_so (operations_in c.args.self.now) c.args.done.now c.args.next (begun_of c.in-Some.entry.now) c.has_all.result h its.0 its.1 c.if-entry-next.true
    (c.has_all.ensures ∙ ap (λ (ops : List ℕ). list_all (has c.args.done.now) ops) c.deref.ensures.value)

pub returns-in_default : goal.returns-in_default
returns-in_default c = λ h.
    let its = c.in-Some.ensures h in (
      λ f. absurd (true≢false (sym f)),
      λ m. absurd (follows_not (operations_in c.args.self.now) c.args.done.now c.args.next (begun_of c.in-Some.entry.now) h its.0 its.1 c.if-entry-next.false m),
    )
