-- An arena's rings, and its lists.
use Rattle.std.proofs.Common.{◌≡◌, ℕ, zero, suc, ◌<◌, ◌≤◌, true, false, List, [], ◌∷◌, ◌++◌, length, refl, arith, ap, ◌∙◌, slice_index_or, slice_set, replicate}
use Rattle.std.proofs.lemmas.Bool.Decides.{nat_tests}
use Rattle.std.proofs.lemmas.Grind.{common_steps}
use Rattle.index_list.specs.Lists.{has, without, IsDistinct, NodeList}
use Rattle.index_list.specs.Links.{lists_of, IsArena}
use Rattle.index_list.proofs.Members.{set_again, length-without, has-push, has-without, IsDistinct-without, IsDistinct-push, length-le_from_distinct}

pub ring_items : (rings : List NodeList) (k : ℕ) (d : NodeList) → k < length rings →
    (slice_index_or rings k d).items ≡ slice_index_or (lists_of rings) k []
ring_items [] k d h = absurd (omega arith)
ring_items (r ∷ rs) zero d h = refl
ring_items (r ∷ rs) (suc k) d h = ring_items rs k d (omega arith)

pub length_lists : (rings : List NodeList) → length (lists_of rings) ≡ length rings
length_lists [] = refl
length_lists (r ∷ rs) = ap suc (length_lists rs)

pub lists_of_set : (rings : List NodeList) (k : ℕ) (v : NodeList) →
    lists_of (slice_set rings k v) ≡ slice_set (lists_of rings) k v.items
lists_of_set [] k v = refl
lists_of_set (r ∷ rs) zero v = refl
lists_of_set (r ∷ rs) (suc k) v = ap (λ (l : List (List ℕ)). r.items ∷ l) (lists_of_set rs k v)

pub list_put : (rings : List NodeList) (k : ℕ) (v : NodeList) → k < length rings →
    slice_index_or (lists_of (slice_set rings k v)) k [] ≡ v.items
list_put [] k v h = absurd (omega arith)
list_put (r ∷ rs) zero v h = refl
list_put (r ∷ rs) (suc k) v h = list_put rs k v (omega arith)

pub ruleset arena_steps = (common_steps, set_again, length-without, ring_items, length_lists, lists_of_set, list_put)

-- what holds of the new list and of the lists as they were holds of each list now
at_set : (P : List ℕ → Type 0) (lists : List (List ℕ)) (k j : ℕ) (xs : List ℕ) → P xs →
    P (slice_index_or lists j []) → P (slice_index_or (slice_set lists k xs) j [])
at_set P [] k j xs new old = old
at_set P (l ∷ ls) zero zero xs new old = new
at_set P (l ∷ ls) zero (suc j) xs new old = old
at_set P (l ∷ ls) (suc k) zero xs new old = old
at_set P (l ∷ ls) (suc k) (suc j) xs new old = at_set P ls k j xs new old

same_nodes_set : (n : ℕ) (rings : List NodeList) (k j : ℕ) (v d : NodeList) → v.nodes ≡ n → (slice_index_or rings j d).nodes ≡ n →
    (slice_index_or (slice_set rings k v) j d).nodes ≡ n
same_nodes_set n [] k j v d new old = old
same_nodes_set n (r ∷ rs) zero zero v d new old = new
same_nodes_set n (r ∷ rs) zero (suc j) v d new old = old
same_nodes_set n (r ∷ rs) (suc k) zero v d new old = old
same_nodes_set n (r ∷ rs) (suc k) (suc j) v d new old = same_nodes_set n rs k j v d new old

-- what a ring must be to stand in an arena of n nodes
pub record CanStand (n : ℕ) (v : NodeList) : Type 0 where
  pub nodes : v.nodes ≡ n
  pub distinct : IsDistinct v.items
  pub below : (i : ℕ) → has i v.items ≡ true → i < n

pub CanStand-front : (n i : ℕ) (v : NodeList) → CanStand n v → i < n → has i v.items ≡ false → CanStand n (record v { items = i ∷ v.items })
CanStand-front n i v f b h = record {
  nodes = f.nodes;
  distinct = (h, f.distinct);
  below = λ j m. grind (arith, nat_tests, f.below j);
}

pub CanStand-back : (n i : ℕ) (v : NodeList) → CanStand n v → i < n → has i v.items ≡ false → CanStand n (record v { items = v.items ++ i ∷ [] })
CanStand-back n i v f b h = record {
  nodes = f.nodes;
  distinct = IsDistinct-push i v.items f.distinct h;
  below = λ j m. grind (arith, nat_tests, f.below j, has-push j i v.items);
}

pub CanStand-without : (n i : ℕ) (v : NodeList) → CanStand n v → CanStand n (record v { items = without i v.items })
CanStand-without n i v f = record {
  nodes = f.nodes;
  distinct = IsDistinct-without i v.items f.distinct;
  below = λ j m. grind (arith, nat_tests, f.below j, has-without j i v.items f.distinct);
}

module _ (count n : ℕ) (rings : List NodeList) (a : IsArena count n rings) where
  pub ring_stands : (k : ℕ) (v : NodeList) → k < count → v ≡ slice_index_or rings k v → CanStand n v
  ring_stands k v h e =
      let inside : k < length rings = omega (arith, a.counted) in
      let items : v.items ≡ slice_index_or (lists_of rings) k [] = ap (λ (w : NodeList). w.items) e ∙ ring_items rings k v inside in
      record {
        nodes = ap (λ (w : NodeList). w.nodes) e ∙ a.same_nodes k v inside;
        distinct = rw items (a.sound.distinct k);
        below = rw items (a.sound.below k);
      }

  -- one ring changes
  pub changed : (k : ℕ) (v : NodeList) → CanStand n v → IsArena count n (slice_set rings k v)
  changed k v f = record {
    counted = grind (arith, common_steps, a.counted);
    same_nodes = λ j d h. same_nodes_set n rings k j v d f.nodes (a.same_nodes j d (grind (arith, common_steps)));
    sound = rw lists_of_set (record {
      counted = grind (arith, common_steps, a.sound.counted);
      distinct = λ j. at_set IsDistinct (lists_of rings) k j v.items f.distinct (a.sound.distinct j);
      below = λ j. at_set (λ l. (i : ℕ) → has i l ≡ true → i < n) (lists_of rings) k j v.items f.below (a.sound.below j);
      short = λ j. at_set (λ l. length l ≤ n) (lists_of rings) k j v.items (length-le_from_distinct n v.items f.distinct f.below) (a.sound.short j);
    });
  }

-- empty rings
pub lists_of_empty : (count n : ℕ) → lists_of (replicate count (record { nodes = n; items = [] })) ≡ replicate count []
lists_of_empty zero n = refl
lists_of_empty (suc count) n = ap (λ (l : List (List ℕ)). [] ∷ l) (lists_of_empty count n)

none_there : (count k : ℕ) → slice_index_or (replicate {A = List ℕ} count []) k [] ≡ []
none_there zero k = refl
none_there (suc count) zero = refl
none_there (suc count) (suc k) = none_there count k

pub empty_arena : (count n : ℕ) → IsArena count n (replicate count (record { nodes = n; items = [] }))
empty_arena count n = record {
  counted = grind (arith, common_steps);
  same_nodes = λ k d h. grind (arith, common_steps);
  sound = rw (lists_of_empty count n) (record {
    counted = grind (arith, common_steps);
    distinct = λ k. rw (none_there count k) tt;
    below = λ k i h. absurd (let no : false ≡ true = rw (none_there count k) at h in cc);
    short = λ k. rw (none_there count k) (omega arith);
  });
}
