use Rattle.std.proofs.Common.{◌∙◌, ℕ, List, inl, inr, subst, sym, true≢false}
use Rattle.std.specs.Ordering.{nat_cmp}
use Rattle.std.specs.List.Sorted.{IsBinarySearchResult}
use Rattle.image_check.proofs.Following.{begun_state}
use Rattle.image_check.proofs.Rising.{hart_begun, number_searched}
use Rattle.image_check.proofs.plan_state.PlanState.has_begun.Goals as goal

pub returns-then-is_some : goal.returns-then-is_some
returns-then-is_some c = λ plan start events is.
    let state = c.args.self.now in
    let pending = hart_begun state.outcomes.under_way.items c.args.op c.hart_of.result (c.hart_of.ensures is.in_order) in (
      λ t. (begun_state plan start events state c.args.op is).0 (inl (pending.0 (sym c.is_some.ensures ∙ t))),
      λ b. c.if-is_some.true,
    )

pub returns-else-is_some : goal.returns-else-is_some
returns-else-is_some c = λ plan start events is.
    let state = c.args.self.now in
    let pending = hart_begun state.outcomes.under_way.items c.args.op c.hart_of.result (c.hart_of.ensures is.in_order) in
    let over =
    number_searched state.ended.items c.args.op c.binary_search.result is.ended_in_order
    (subst (λ (ops : List ℕ). IsBinarySearchResult (λ y. nat_cmp y c.args.op) ops c.binary_search.result) c.deref.ensures.value c.binary_search.ensures.position) in (
      λ t. (begun_state plan start events state c.args.op is).0 (inr (over.0 (sym c.is_ok.ensures.value ∙ t))),
      λ b. elim ((begun_state plan start events state c.args.op is).1 b) [
        | inl p ↦ absurd (true≢false (sym (c.is_some.ensures ∙ pending.1 p) ∙ c.if-is_some.false))
        | inr e ↦ c.is_ok.ensures.value ∙ over.1 e
      ],
    )
