use Rattle.std.proofs.Common.{rules}
use Rattle.std.proofs.lemmas.List.Sorted.{IsNonDecreasingBy-from_sort_by_key, answers_always}
use Rattle.std.proofs.lemmas.Result.{on_ok_weaker}
use Rattle.random_schedule.proofs.Weaves.{stays_in_order}
use Rattle.random_schedule.proofs.weaving.sort.Goals as goal

pub returns-clause-sorted : goal.returns-clause-sorted
returns-clause-sorted c = on_ok_weaker c.sort_by_key.result (λ sorted. IsNonDecreasingBy-from_sort_by_key (λ eviction. eviction.step) _ sorted (λ a r q k. search rules)) c.sort_by_key.ensures.sorted

pub returns-clause-stable : goal.returns-clause-stable
returns-clause-stable c =
    let stays = stays_in_order _ _ (c.sort_by_key.ensures.stable (λ eviction. eviction.step) (answers_always _ _ _ (λ f a r g h. search rules))) in
    on_ok_weaker c.sort_by_key.result (λ sorted. stays) c.sort_by_key.ensures.sorted
