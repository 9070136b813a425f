-- What each call does to the next and previous numbers of one ring.
use Rattle.std.proofs.Common.{◌≡◌, ℕ, zero, suc, ◌+◌, ◌<◌, ◌≤◌, true, false, not, eqb, Some, None, List, [], ◌∷◌, ◌++◌, length, cond, refl, arith, ap, sym, ◌∙◌, slice_index, slice_index_or, slice_set}
use Rattle.std.proofs.lemmas.Bool.Decides.{nat_tests}
use Rattle.std.proofs.lemmas.Grind.{common_steps}
use Rattle.std.proofs.lemmas.List.{length-append}
use Rattle.index_list.specs.Lists.{has, without, first, last, after, IsDistinct, NodeList}
use Rattle.index_list.specs.Links.{next_on, prev_on, walk, spelled, IsRing, IsLinked}
use Rattle.index_list.proofs.Members.{has-without, IsDistinct-without, IsDistinct-push, AllBelow-without, AllBelow-push, AllBelow-more, below_from_has, has_beyond, length-le_from_distinct}
use Rattle.index_list.proofs.Steps.{next_in, prev_in, prev_end, next-without, prev-without, next-front, prev-front, next-back, prev-back, after-next, last-prev, has-next, next_moved, prev_moved, first_end}

-- a walk finds the list that the next numbers spell
walk_spelled : (next : List ℕ) (e p most : ℕ) (l : List ℕ) → length l ≤ most → IsDistinct (p ∷ l) → has e l ≡ false →
    ((j : ℕ) → has j (p ∷ l) ≡ true → slice_index next j ≡ next_on e p l j) → walk next e p most ≡ l
walk_spelled next e p zero [] short d o is = refl
walk_spelled next e p zero (x ∷ xs) short d o is = absurd (omega arith)
walk_spelled next e p (suc most) [] short d o is = grind (arith, nat_tests, is p)
walk_spelled next e p (suc most) (x ∷ xs) short d o is =
    let follows : slice_index next p ≡ x = grind (arith, nat_tests, is p) in
    let rest : walk next e x most ≡ xs = walk_spelled next e x most xs (omega arith) d.1 (grind (arith, nat_tests))
    (λ j h. grind (arith, nat_tests, is j, d.0)) in
    grind (arith, nat_tests)

pub made : (n : ℕ) (next prev items : List ℕ) → IsRing n next prev items → walk next n n n ≡ items
made n next prev items r =
    let out : has n items ≡ false = has_beyond n n items r.below (omega arith) in
    walk_spelled next n n n items (length-le_from_distinct n items r.distinct (λ i. below_from_has n i items r.below)) (out, r.distinct) out
    (λ j h. r.next_is j (grind (arith, nat_tests, below_from_has n j items r.below)))

-- a read inside the list has any default
default : (l : List ℕ) (i d e : ℕ) → i < length l → slice_index_or l i d ≡ slice_index_or l i e
default (x ∷ xs) zero d e h = refl
default [] i d e h = absurd (omega arith)
default (x ∷ xs) (suc i) d e h = default xs i d e (omega arith)

-- two writes in a row, read
two_set : (l : List ℕ) (i v k w j : ℕ) → i < length l → k < length l →
    slice_index (slice_set (slice_set l i v) k w) j ≡ cond (eqb j k) w (cond (eqb j i) v (slice_index l j))
two_set l i v k w j a b = grind (arith, nat_tests, common_steps)

-- a write at each of three places, read
three_set : (l : List ℕ) (a x b y c z j : ℕ) → a < length l → b < length l → c < length l →
    slice_index (slice_set (slice_set (slice_set l a x) b y) c z) j ≡ cond (eqb j c) z (cond (eqb j b) y (cond (eqb j a) x (slice_index l j)))
three_set l a x b y c z j p q r = grind (arith, nat_tests, common_steps)

-- a number added behind the others, read
at_push : (v : ℕ) (l : List ℕ) (j : ℕ) → j ≤ length l → slice_index (l ++ v ∷ []) j ≡ cond (eqb j (length l)) v (slice_index l j)
at_push v [] zero h = refl
at_push v [] (suc j) h = absurd (omega arith)
at_push v (x ∷ xs) zero h = grind (arith, nat_tests)
at_push v (x ∷ xs) (suc j) h = grind (arith, nat_tests, at_push v xs j (omega arith))

-- what the fields of a ring say of its value
pub record Opened (v : NodeList) (n : ℕ) (next prev : List ℕ) : Type 0 where
  pub few : n ≤ v.nodes
  pub ring : IsRing n next prev v.items
  pub end_out : has n v.items ≡ false

pub opened : (v : NodeList) (nodes n : ℕ) (next prev items : List ℕ) (a b : ℕ) → (let w : NodeList = record { nodes = nodes; items = items } in w ≡ v) →
    IsLinked nodes n next prev items a b → Opened v n next prev
opened v nodes n next prev items a b e r =
    let is : items ≡ v.items = ap (λ (w : NodeList). w.items) e in
    let ring : IsRing n next prev v.items = rw is at r.ring in
    record { few = omega (arith, r.few, ap (λ (w : NodeList). w.nodes) e); ring = ring; end_out = has_beyond n n v.items ring.below (omega arith) }

-- the new numbers spell the new list, so the walk finds it
pub closed : (nodes n : ℕ) (next prev items : List ℕ) (a b : ℕ) → IsRing n next prev items → n ≤ nodes → a ≡ nodes + 1 → b ≡ nodes + 1 →
    IsLinked nodes n next prev (spelled n next) a b
closed nodes n next prev items a b r few at bt = rw (made n next prev items r) (record { ring = r; few = few; next_room = at; prev_room = bt })

pub viewed : (v : NodeList) (nodes n : ℕ) (next prev items : List ℕ) → v.nodes ≡ nodes → IsRing n next prev items →
    (let w : NodeList = record { nodes = nodes; items = spelled n next } in w ≡ record v { items = items })
viewed v nodes n next prev items e r = rw (made n next prev items r, e) refl

module _ (v : NodeList) (n : ℕ) (next prev : List ℕ) (o : Opened v n next prev) where
  pub member_below : (i : ℕ) → has i v.items ≡ true → i < n
  member_below i h = below_from_has n i v.items o.ring.below h

  pub read_next : (i r : ℕ) → i ≤ n → r ≡ slice_index_or next i r → r ≡ next_on n n v.items i
  read_next i r h e = e ∙ default next i r 0 (omega (arith, o.ring.next_len)) ∙ o.ring.next_is i h

  pub read_prev : (i r : ℕ) → i ≤ n → r ≡ slice_index_or prev i r → r ≡ prev_on n n v.items i
  read_prev i r h e = e ∙ default prev i r 0 (omega (arith, o.ring.prev_len)) ∙ o.ring.prev_is i h

  pub next_small : (i : ℕ) → has i (n ∷ v.items) ≡ true → next_on n n v.items i ≤ n
  next_small i h =
      grind (arith, nat_tests, next_in n n i v.items h, member_below (next_on n n v.items i))

  pub prev_small : (i : ℕ) → has i (n ∷ v.items) ≡ true → prev_on n n v.items i ≤ n
  prev_small i h =
      grind (arith, nat_tests, prev_in n n i v.items, member_below (prev_on n n v.items i))

  pub member_small : (i : ℕ) → has i v.items ≡ true → i ≤ n
  member_small i h = omega (arith, member_below i h)

  pub on_way : (i : ℕ) → has i v.items ≡ true → has i (n ∷ v.items) ≡ true
  on_way i h = grind (arith, nat_tests)

  pub last_small : prev_on n n v.items n ≤ n
  last_small = prev_small n (grind (arith, nat_tests))

  pub first_small : next_on n n v.items n ≤ n
  first_small = next_small n (grind (arith, nat_tests))

  pub pushed_front : (i first : ℕ) → i < n → has i v.items ≡ false → first ≡ next_on n n v.items n →
      IsRing n (slice_set (slice_set next n i) i first) (slice_set (slice_set prev first i) i n) (i ∷ v.items)
  pushed_front i first b h e =
      let small : first ≤ n = grind (arith, nat_tests, next_small n) in
      record {
        next_len = grind (arith, common_steps, o.ring.next_len);
        prev_len = grind (arith, common_steps, o.ring.prev_len);
        distinct = (h, o.ring.distinct);
        below = (b, o.ring.below);
        next_is = λ j s. grind (arith, nat_tests, two_set next n i i first j (omega (arith, o.ring.next_len)) (omega (arith, o.ring.next_len)), o.ring.next_is j s, next-front n n i j v.items);
        prev_is = λ j s. grind (arith, nat_tests, two_set prev first i i n j (omega (arith, o.ring.prev_len)) (omega (arith, o.ring.prev_len)), o.ring.prev_is j s, prev-front n n i j v.items o.ring.distinct);
      }

  pub pushed_back : (i last : ℕ) → i < n → has i v.items ≡ false → last ≡ prev_on n n v.items n →
      IsRing n (slice_set (slice_set next last i) i n) (slice_set (slice_set prev n i) i last) (v.items ++ i ∷ [])
  pushed_back i last b h e =
      let small : last ≤ n = grind (arith, nat_tests, prev_small n) in
      record {
        next_len = grind (arith, common_steps, o.ring.next_len);
        prev_len = grind (arith, common_steps, o.ring.prev_len);
        distinct = IsDistinct-push i v.items o.ring.distinct h;
        below = AllBelow-push n i v.items o.ring.below b;
        next_is = λ j s. grind (arith, nat_tests, two_set next last i i n j (omega (arith, o.ring.next_len)) (omega (arith, o.ring.next_len)), o.ring.next_is j s, next-back n n i j v.items (o.end_out, o.ring.distinct), prev_end n n v.items);
        prev_is = λ j s. grind (arith, nat_tests, two_set prev n i i last j (omega (arith, o.ring.prev_len)) (omega (arith, o.ring.prev_len)), o.ring.prev_is j s, prev-back n n i j v.items, prev_end n n v.items);
      }

  pub unlinked : (i before following : ℕ) → has i v.items ≡ true → before ≡ prev_on n n v.items i → following ≡ next_on n n v.items i →
      IsRing n (slice_set (slice_set next before following) i i) (slice_set (slice_set prev following before) i i) (without i v.items)
  unlinked i before following h isb isa =
      let b : i < n = member_below i h in
      let low : before ≤ n = grind (arith, nat_tests, prev_small i) in
      let high : following ≤ n = grind (arith, nat_tests, next_small i) in
      record {
        next_len = grind (arith, common_steps, o.ring.next_len);
        prev_len = grind (arith, common_steps, o.ring.prev_len);
        distinct = IsDistinct-without i v.items o.ring.distinct;
        below = AllBelow-without n i v.items o.ring.below;
        next_is = λ j s. grind (arith, nat_tests, two_set next before following i i j (omega (arith, o.ring.next_len)) (omega (arith, o.ring.next_len)), o.ring.next_is j s, next-without n n i j v.items (o.end_out, o.ring.distinct) h o.end_out);
        prev_is = λ j s. grind (arith, nat_tests, two_set prev following before i i j (omega (arith, o.ring.prev_len)) (omega (arith, o.ring.prev_len)), o.ring.prev_is j s, prev-without n n i j v.items (o.end_out, o.ring.distinct) h o.end_out);
      }

  pub gone : (i : ℕ) (next' prev' : List ℕ) → IsRing n next' prev' (without i v.items) → has i (spelled n next') ≡ false
  gone i next' prev' r =
      ap (λ (l : List ℕ). has i l) (made n next' prev' (without i v.items) r) ∙ (has-without i i v.items o.ring.distinct ∙ grind (arith, nat_tests))

  -- what each reading call answers
  pub contains_is : (i : ℕ) → i < n → has i v.items ≡ not (eqb (next_on n n v.items i) i)
  contains_is i h = has-next n n i v.items (o.end_out, o.ring.distinct) o.end_out (grind (arith, nat_tests)) (grind (arith, nat_tests))

  pub back_is : last v.items ≡ cond (eqb (prev_on n n v.items n) n) None (Some (prev_on n n v.items n))
  back_is = last-prev n v.items o.end_out

  pub after_is : (i : ℕ) → has i v.items ≡ true → after i v.items ≡ cond (eqb (next_on n n v.items i) n) None (Some (next_on n n v.items i))
  after_is i h = after-next n n i v.items h (o.end_out, o.ring.distinct) o.end_out

  -- a node more
  pub grown_empty : (following : ℕ) → following ≡ next_on n n v.items n → following ≡ n → IsRing (n + 1) (next ++ (n + 1) ∷ []) (prev ++ (n + 1) ∷ []) v.items
  grown_empty following e own =
      let none : v.items ≡ [] = first_end n v.items o.end_out (sym e ∙ own) in
      record {
        next_len = omega (arith, length-append next ((n + 1) ∷ []), o.ring.next_len);
        prev_len = omega (arith, length-append prev ((n + 1) ∷ []), o.ring.prev_len);
        distinct = o.ring.distinct;
        below = AllBelow-more n v.items o.ring.below;
        next_is = λ j s. rw none (grind (arith, nat_tests, at_push (n + 1) next j, o.ring.next_len, rw none at (o.ring.next_is j)));
        prev_is = λ j s. rw none (grind (arith, nat_tests, at_push (n + 1) prev j, o.ring.prev_len, rw none at (o.ring.prev_is j)));
      }

  pub grown : (before following : ℕ) → following ≡ next_on n n v.items n → before ≡ prev_on n n v.items n → eqb following n ≡ false →
      IsRing (n + 1) (slice_set (slice_set (slice_set (next ++ (n + 1) ∷ []) (n + 1) following) before (n + 1)) n n)
      (slice_set (slice_set (slice_set (prev ++ (n + 1) ∷ []) (n + 1) before) following (n + 1)) n n) v.items
  grown before following e f some =
      let low : following ≤ n = grind (arith, nat_tests, next_small n) in
      let high : before ≤ n = grind (arith, nat_tests, prev_small n) in
      let more_next = length-append next ((n + 1) ∷ []) in
      let more_prev = length-append prev ((n + 1) ∷ []) in
      let off : has (n + 1) (n ∷ v.items) ≡ false = grind (arith, nat_tests, has_beyond n (n + 1) v.items o.ring.below (omega arith)) in
      record {
        next_len = grind (arith, common_steps, o.ring.next_len, more_next);
        prev_len = grind (arith, common_steps, o.ring.prev_len, more_prev);
        distinct = o.ring.distinct;
        below = AllBelow-more n v.items o.ring.below;
        next_is = λ j s. grind (arith, nat_tests, three_set (next ++ (n + 1) ∷ []) (n + 1) following before (n + 1) n n j (omega (arith, o.ring.next_len)) (omega (arith, o.ring.next_len)) (omega (arith, o.ring.next_len)), at_push (n + 1) next j, o.ring.next_len, o.ring.next_is j, next_moved n (n + 1) j v.items o.ring.distinct o.end_out off);
        prev_is = λ j s. grind (arith, nat_tests, three_set (prev ++ (n + 1) ∷ []) (n + 1) before following (n + 1) n n j (omega (arith, o.ring.prev_len)) (omega (arith, o.ring.prev_len)) (omega (arith, o.ring.prev_len)), at_push (n + 1) prev j, o.ring.prev_len, o.ring.prev_is j, prev_moved n (n + 1) j v.items o.end_out off);
      }
