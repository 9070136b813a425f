-- Marks that are set back over the ways of a graph.
use Rattle.std.proofs.Common.{◌≡◌, ◌⊎◌, inl, inr, ℕ, zero, suc, ◌+◌, ◌<◌, ◌≤◌, Bool, true, false, List, [], ◌∷◌, ◌++◌, Option, Some, None, IfSome, length, slice_get, slice_index_or, slice_set, refl, sym, ap, ◌∙◌, subst, arith}
use Rattle.std.proofs.lemmas.Bool.{cases_eq}
use Rattle.bus.proofs.Places.{got_else, got_set}
use Rattle.std.proofs.lemmas.Option.{get_or_from_slice_get, slice_get-get_or, slice_get_within}
use Rattle.schedule_states.specs.Ways.{AreKeptMarks, AreMarkedBack, IsMarked, IsMarkedBack, IsOneMarked, IsWay, LeadsOut, unmarked, walked}

-- one mark more
set_marked : (marks : List Bool) (n : ℕ) → slice_get marks n ≡ Some false → suc (unmarked (slice_set marks n true)) ≡ unmarked marks
set_marked [] n was = absurd cc
set_marked (true ∷ marks) zero was = absurd cc
set_marked (false ∷ marks) zero was = refl
set_marked (true ∷ marks) (suc n) was = set_marked marks n was
set_marked (false ∷ marks) (suc n) was = ap (λ (k : ℕ). suc k) (set_marked marks n was)

pub fewer_unmarked : (next : List (List ℕ)) (old new : List Bool) (n : ℕ) → IsOneMarked next old new n → unmarked new < unmarked old
fewer_unmarked next old new n one =
    let fewer : suc (unmarked (slice_set old n true)) ≡ unmarked old = set_marked old n one.was in
    let same : unmarked new ≡ unmarked (slice_set old n true) = ap (λ (marks : List Bool). unmarked marks) one.now in
    omega (arith, fewer, same)

pub one_kept : (next : List (List ℕ)) (old new : List Bool) (n : ℕ) → IsOneMarked next old new n → AreKeptMarks old new
one_kept next old new n one m was = elim (cases_eq m n) [
  | inl same ↦ subst (λ (marks : List Bool). IsMarked marks m) (sym one.now)
      (subst (λ (k : ℕ). IsMarked (slice_set old n true) k) (sym same) (got_set old n true (slice_get_within old n false one.was)))
  | inr other ↦ subst (λ (marks : List Bool). IsMarked marks m) (sym one.now) (got_else old n m true other ∙ was)
]

-- a state that is marked now was marked, or is the one
one_marked : (next : List (List ℕ)) (old new : List Bool) (n m : ℕ) → IsOneMarked next old new n → IsMarked new m → (m ≡ n) ⊎ IsMarked old m
one_marked next old new n m one marked = elim (cases_eq m n) [
  | inl same ↦ inl same
  | inr other ↦ inr (sym (got_else old n m true other) ∙ subst (λ (marks : List Bool). IsMarked marks m) one.now marked)
]

pub one_sound : (next : List (List ℕ)) (start old new : List Bool) (n : ℕ) → IsOneMarked next old new n → ((m : ℕ) → IsMarked old m → LeadsOut next start m) →
    (m : ℕ) → IsMarked new m → LeadsOut next start m
one_sound next start old new n one sound m marked = elim (one_marked next old new n m one marked) [
  | inl same ↦ subst (λ (k : ℕ). LeadsOut next start k) (sym same) (LeadsOut.further n one.hart one.target one.way (sound one.target one.marked))
  | inr was ↦ sound m was
]

-- an end of ends
pub leads_through : (next : List (List ℕ)) (start middle : List Bool) → ((m : ℕ) → IsMarked middle m → LeadsOut next start m) → (n : ℕ) → LeadsOut next middle n →
    LeadsOut next start n
leads_through next start middle sound _ (LeadsOut.here n marked) = sound n marked
leads_through next start middle sound _ (LeadsOut.further n hart m way on) = LeadsOut.further n hart m way (leads_through next start middle sound m on)

-- what leads out is marked where each end is, and each state from which a way leads to a marked one
pub out_marked : (next : List (List ℕ)) (ends marks : List Bool) → AreKeptMarks ends marks → AreMarkedBack next marks → (n : ℕ) → LeadsOut next ends n → IsMarked marks n
out_marked next ends marks kept back _ (LeadsOut.here n marked) = kept n marked
out_marked next ends marks kept back _ (LeadsOut.further n hart m way on) = back n hart m way (out_marked next ends marks kept back m on)

-- the state to which one request more leads
pub walked_on : (next : List (List ℕ)) (n : ℕ) (requests : List ℕ) (hart : ℕ) → walked next n (requests ++ hart ∷ []) ≡
    slice_index_or (slice_index_or next (walked next n requests) []) hart 0
walked_on next n [] hart = refl
walked_on next n (first ∷ requests) hart = walked_on next (slice_index_or (slice_index_or next n []) first 0) requests hart

-- ways by the places of lists
pub way_of : (next : List (List ℕ)) (n hart : ℕ) → n < length next → hart < 8 → IsWay next n hart (slice_index_or (slice_index_or next n []) hart 0)
way_of next n hart there few = record { to = slice_index_or next n []; found = slice_get-get_or next n [] there; few = few; is = refl }

pub way_is : (next : List (List ℕ)) (n hart m : ℕ) → IsWay next n hart m → m ≡ slice_index_or (slice_index_or next n []) hart 0
way_is next n hart m way =
    way.is ∙ ap (λ (to : List ℕ). slice_index_or to hart 0) (sym (get_or_from_slice_get next n way.to [] way.found))

pub marked_there : (marks : List Bool) (n : ℕ) → n < length marks → slice_index_or marks n false ≡ true → IsMarked marks n
marked_there marks n there is = slice_get-get_or marks n false there ∙ ap (λ (mark : Bool). Some mark) is

pub unmarked_there : (marks : List Bool) (n : ℕ) → slice_index_or marks n false ≡ false → IsMarked marks n → ⊥
unmarked_there marks n is marked = let both : true ≡ false = sym (get_or_from_slice_get marks n true false marked) ∙ is in absurd cc

-- a pass from the last state to the first, as far as it has come
pub record IsPassed (next : List (List ℕ)) (start marks : List Bool) (has_marked : Bool) (behind : ℕ) : Type 0 where
  pub count : length marks ≡ length next
  pub sound : (n : ℕ) → IsMarked marks n → LeadsOut next start n
  pub kept : AreKeptMarks start marks
  pub fewer : unmarked marks ≤ unmarked start
  pub more : has_marked ≡ true → unmarked marks < unmarked start
  pub back : has_marked ≡ false → (n : ℕ) → length next ≤ n + behind → IsMarkedBack next marks n

pub pass_begun : (next : List (List ℕ)) (start : List Bool) → length start ≡ length next → IsPassed next start start false 0
pass_begun next start count = record {
  count = count;
  sound = λ n marked. LeadsOut.here n marked;
  kept = λ n marked. marked;
  fewer = omega arith;
  more = λ told. absurd cc;
  back = λ told n past hart m way marked. absurd (omega (arith, past, slice_get_within next n way.to way.found));
}

pub pass_marks : (next : List (List ℕ)) (start old new : List Bool) (has_marked : Bool) (behind n : ℕ) → length new ≡ length old → IsOneMarked next old new n →
    IsPassed next start old has_marked behind → IsPassed next start new true (behind + 1)
pass_marks next start old new has_marked behind n count one passed = record {
  count = count ∙ passed.count;
  sound = one_sound next start old new n one passed.sound;
  kept = λ m marked. one_kept next old new n one m (passed.kept m marked);
  fewer = omega (arith, fewer_unmarked next old new n one, passed.fewer);
  more = λ told. omega (arith, fewer_unmarked next old new n one, passed.fewer);
  back = λ told. absurd cc;
}

pub pass_goes_on : (next : List (List ℕ)) (start old new : List Bool) (has_marked : Bool) (behind n : ℕ) → new ≡ old → IsMarkedBack next old n → length next ≡ n + behind + 1 →
    IsPassed next start old has_marked behind → IsPassed next start new has_marked (behind + 1)
pass_goes_on next start old new has_marked behind n same back at passed =
    subst (λ (marks : List Bool). IsPassed next start marks has_marked (behind + 1)) (sym same) (record {
      count = passed.count;
      sound = passed.sound;
      kept = passed.kept;
      fewer = passed.fewer;
      more = passed.more;
      back = λ told k past. elim (cases_eq k n) [
        | inl is ↦ subst (λ (i : ℕ). IsMarkedBack next old i) (sym is) back
        | inr other ↦ passed.back told k (omega (arith, past, at, other))
      ];
    })

-- what holds of a number that was found
pub some_weaker : (found : Option ℕ) (P Q : ℕ → Type 0) → ((n : ℕ) → P n → Q n) → IfSome found P → IfSome found Q
some_weaker None P Q so is = is
some_weaker (Some n) P Q so is = so n is
