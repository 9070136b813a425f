use Rattle.std.proofs.Common.{◌≤◌, ℕ, ◌∷◌, length, ltb, rules, sym, subst, IsPermutation, List}
use Rattle.std.specs.List.{Contains}
use Rattle.std.proofs.lemmas.List.Sorted.{IsPartitionPoint-from_clause, IsPermutation-insert}
use Rattle.image_check.proofs.Rising.{map_same, parted_as, place_in, placed}
use Rattle.image_check.proofs.plan_state.PlanState.end.Goals as goal

pub returns-clause-ended : goal.returns-clause-ended
returns-clause-ended c =
    subst (λ (ops : List ℕ). IsPermutation (c.args.op ∷ c.args.self.now.ended.items) ops) (sym c.in_ok-insert.ensures.items)
    (IsPermutation-insert c.args.self.now.ended.items c.partition_point-place.result c.args.op)

pub returns-clause-in_order : goal.returns-clause-in_order
returns-clause-in_order c = λ h fresh.
    let point =
    place_in (λ (x : ℕ). x) c.deref.result.now c.args.self.now.ended.items c.partition_point-place.result c.args.op c.deref.ensures.value
    (IsPartitionPoint-from_clause (λ (x : ℕ). ltb x c.args.op) _ _ c.partition_point-place.ensures.partitioned
    (parted_as (λ (x : ℕ). x) c.deref.result.now c.args.self.now.ended.items c.args.op c.deref.ensures.value h) (λ a r q k. search rules)) in
    placed (λ (x : ℕ). x) c.args.self.now.ended.items _ c.partition_point-place.result c.args.op
    (subst (λ (xs : List ℕ). c.partition_point-place.result ≤ length xs) c.deref.ensures.value c.partition_point-place.ensures.bound) point
    c.in_ok-insert.ensures.items h
    (λ m. fresh (subst (λ (ops : List ℕ). Contains ops c.args.op) (map_same c.args.self.now.ended.items) m))
