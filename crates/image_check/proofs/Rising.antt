-- Lists in the order of their elements' numbers, each number at most once.
use Rattle.std.proofs.Common.{◌≡◌, ℕ, suc, ◌+◌, ◌-◌, ◌<◌, ◌≤◌, inl, inr, true, false, not, List, [], ◌∷◌, map, length, get_or, refl, sym, ap, ◌∙◌, subst, true≢false, arith, ltb, ltb-true, ltb-false, eqb-true, eq-eqb, Bool, Option, Some, None}
use Rattle.std.specs.Prelude.{◌==◌, ◌↔◌, filter, is_some, nat_eq, slice_get, IsTrue, Result, Ok, Err}
use Rattle.std.specs.List.{AllPairs, Contains, insert}
use Rattle.std.specs.List.Sorted.{IsBinarySearchResult, IsNonDecreasingBy, IsPartitionPoint, IsPartitionedBy}
use Rattle.std.specs.Option.{option_eq}
use Rattle.std.specs.Ordering.{nat_cmp}
use Rattle.std.specs.Result.{is_ok, MatchResult}
use Rattle.std.proofs.lemmas.Bool.{cases_lt}
use Rattle.std.proofs.lemmas.List.{get_or-map, get_or_default, length-map}
use Rattle.std.proofs.lemmas.List.Elements.{Contains-get_or}
use Rattle.std.proofs.lemmas.List.Edits.{get_or-insert_above, get_or-insert_at, get_or-insert_below, length-insert}
use Rattle.std.proofs.lemmas.List.Kept.{AllPairs-filter}
use Rattle.std.proofs.lemmas.List.Sorted.{IsPartitionedBy-ltb, searched}
use Rattle.std.proofs.lemmas.Option.{get_or_from_slice_get, slice_get-get_or, slice_get_read, slice_get_within}
use Rattle.image_check.specs.Growth.{AreInOrder, begun_on, times}
use Rattle.image_check.specs.declared.legal.UnderWay.{UnderWay}
use Rattle.image_check.proofs.Counting.{counted}
use Rattle.store_trace.proofs.Members.{contains_cases, contains_first, contains_later, no_members}

abbrev pub Rises : {X : Type 0} → (X → ℕ) → List X → Type 0
Rises n xs = AllPairs (λ x y. n x < n y) xs

pub map_same : (xs : List ℕ) → map (λ (x : ℕ). x) xs ≡ xs
map_same [] = refl
map_same (x ∷ xs) = ap (λ (ys : List ℕ). x ∷ ys) (map_same xs)

module _ {X : Type 0} (n : X → ℕ) where
  not_falling : (xs : List X) → Rises n xs → IsNonDecreasingBy n xs
  not_falling xs h i j d le lt = elim (cases_lt i j) [
    | inl before ↦ let less = h i j d before lt in omega arith
    | inr late ↦ let same : i ≡ j = omega arith in omega (arith, ap (λ (k : ℕ). n (get_or xs k d)) same)
  ]

  pub parted : (xs : List X) (t : ℕ) → Rises n xs → IsPartitionedBy (λ y. ltb (n y) t) xs
  parted xs t h = IsPartitionedBy-ltb n xs t (not_falling xs h)

  -- one more, where it belongs
  put : (xs : List X) (p : ℕ) (x : X) → p ≤ length xs → Rises n xs → ((k : ℕ) (d : X) → k < p → n (get_or xs k d) < n x) →
      ((k : ℕ) (d : X) → p ≤ k → k < length xs → n x < n (get_or xs k d)) → Rises n (insert xs p x)
  put xs p x le h below above i j d less inside =
      let long = length-insert xs p x le in
      let here : n (get_or (insert xs p x) p d) ≡ n x = ap n (get_or-insert_at xs p x d le) in
      elim (cases_lt j p) [
        | inl before ↦
            omega (arith, ap n (get_or-insert_below xs p x d i (omega arith) le), ap n (get_or-insert_below xs p x d j before le), h i j d less (omega arith))
        | inr late ↦ elim (cases_lt p j) [
          | inl after ↦
              let k : ℕ = j - 1 in
              let step : k + 1 ≡ j = omega arith in
              let of_j : n (get_or (insert xs p x) j d) ≡ n (get_or xs k d) =
              ap (λ (m : ℕ). n (get_or (insert xs p x) m d)) (sym step) ∙ ap n (get_or-insert_above xs p x d k (omega arith) le) in
              elim (cases_lt i p) [
                | inl first ↦ omega (arith, of_j, ap n (get_or-insert_below xs p x d i first le), h i k d (omega arith) (omega arith))
                | inr second ↦ elim (cases_lt p i) [
                  | inl third ↦
                      let m : ℕ = i - 1 in
                      let back : m + 1 ≡ i = omega arith in
                      let of_i : n (get_or (insert xs p x) i d) ≡ n (get_or xs m d) =
                      ap (λ (a : ℕ). n (get_or (insert xs p x) a d)) (sym back) ∙ ap n (get_or-insert_above xs p x d m (omega arith) le) in
                      omega (arith, of_j, of_i, h m k d (omega arith) (omega arith))
                  | inr fourth ↦
                      let same : i ≡ p = omega arith in
                      omega (arith, of_j, here, ap (λ (a : ℕ). n (get_or (insert xs p x) a d)) same, above k d (omega arith) (omega arith))
                ]
              ]
          | inr now ↦
              let same : j ≡ p = omega arith in
              omega (arith, here, ap (λ (a : ℕ). n (get_or (insert xs p x) a d)) same, ap n (get_or-insert_below xs p x d i (omega arith) le), below i d (omega arith))
        ]
      ]

  -- as a search finds its place in a slice of the list
  pub parted_as : (xs ys : List X) (t : ℕ) → xs ≡ ys → Rises n ys → IsPartitionedBy (λ y. ltb (n y) t) xs
  parted_as xs ys t same h = parted xs t (subst (λ (zs : List X). Rises n zs) (sym same) h)

  pub place_in : (xs ys : List X) (p t : ℕ) → xs ≡ ys → IsPartitionPoint (λ y. ltb (n y) t ≡ true) (λ y. ltb (n y) t ≡ false) xs p →
      IsPartitionPoint (λ y. n y < t) (λ y. t ≤ n y) ys p
  place_in xs ys p t same point = subst (λ (zs : List X). IsPartitionPoint (λ y. n y < t) (λ y. t ≤ n y) zs p) same (
    λ k d l m. ltb-true (n (get_or xs k d)) t (point.0 k d l m),
    λ k d l m. let not_less = ltb-false (n (get_or xs k d)) t (point.1 k d l m) in omega arith,
  )

  pub placed : (xs new : List X) (p : ℕ) (x : X) → p ≤ length xs → IsPartitionPoint (λ y. n y < n x) (λ y. n x ≤ n y) xs p → new ≡ insert xs p x →
      Rises n xs → ¬ Contains (map n xs) (n x) → Rises n new
  placed xs new p x le point made h fresh =
      subst (λ (zs : List X). Rises n zs) (sym made)
      (put xs p x le h (λ k d l. point.0 k d (omega arith) l)
      (λ k d l m.
      let most : n x ≤ n (get_or xs k d) = point.1 k d l m in
      elim (cases_lt (n x) (n (get_or xs k d))) [
        | inl less ↦ less
        | inr not_less ↦
            let same : n (get_or xs k d) ≡ n x = omega arith in
            absurd (fresh (k, let long = length-map xs n in omega arith, get_or-map n xs k d (n x) m ∙ same))
      ]))

  -- at its place stands the element of the number that is sought, if there is one
  pub found_at : (xs : List X) (p t : ℕ) → Rises n xs → IsPartitionPoint (λ y. n y < t) (λ y. t ≤ n y) xs p → (x : X) → n x ≡ t → Contains xs x →
      slice_get xs p ≡ Some x
  found_at xs p t h point x e c =
      let here : n (get_or xs c.0 x) ≡ t = ap n c.2 ∙ e in
      elim (cases_lt c.0 p) [
        | inl before ↦ let less = point.0 c.0 x (omega arith) before in absurd (omega arith)
        | inr late ↦ elim (cases_lt p c.0) [
          | inl after ↦
              let most = point.1 p x (omega arith) (omega (arith, c.1)) in
              let less = h p c.0 x after c.1 in
              absurd (omega arith)
          | inr now ↦
              let same : c.0 ≡ p = omega arith in
              subst (λ (k : ℕ). slice_get xs k ≡ Some x) same (slice_get-get_or xs c.0 x c.1 ∙ ap (λ (y : X). Some y) c.2)
        ]
      ]

  -- two such lists with the same elements are one
  later : (x : X) (xs : List X) (y : X) → Rises n (x ∷ xs) → Contains xs y → n x < n y
  later x xs y h c =
      subst (λ (z : X). n x < n z) c.2 (h 0 (suc c.0) y (omega arith) (omega (arith, c.1)))

  rest : (x : X) (xs : List X) → Rises n (x ∷ xs) → Rises n xs
  rest x xs h i j d less inside = h (suc i) (suc j) d (omega arith) (omega (arith, inside))

  first_same : (x y : X) (xs ys : List X) → Rises n (x ∷ xs) → Rises n (y ∷ ys) → Contains (y ∷ ys) x → Contains (x ∷ xs) y → y ≡ x
  first_same x y xs ys h k c d = elim (contains_cases y ys x c) [
    | inl e ↦ e
    | inr a ↦ elim (contains_cases x xs y d) [
      | inl e ↦ sym e
      | inr b ↦ let less = later y ys x k a in let more = later x xs y h b in absurd (omega arith)
    ]
  ]

  without_first : (x y : X) (xs ys : List X) → Rises n (x ∷ xs) → y ≡ x → ((z : X) → Contains (x ∷ xs) z → Contains (y ∷ ys) z) →
      (z : X) → Contains xs z → Contains ys z
  without_first x y xs ys h e same z c = elim (contains_cases y ys z (same z (contains_later x xs z c))) [
    | inl s ↦
        let less = later x xs z h c in
        let equal : n z ≡ n x = ap n (sym s ∙ e) in
        absurd (omega arith)
    | inr d ↦ d
  ]

  pub one_list : (xs ys : List X) → Rises n xs → Rises n ys → ((z : X) → Contains xs z → Contains ys z) → ((z : X) → Contains ys z → Contains xs z) → xs ≡ ys
  one_list [] [] h k to from = refl
  one_list [] (y ∷ ys) h k to from = absurd (no_members y (from y (contains_first y ys y refl)))
  one_list (x ∷ xs) [] h k to from = absurd (no_members x (to x (contains_first x xs x refl)))
  one_list (x ∷ xs) (y ∷ ys) h k to from =
      let e : y ≡ x = first_same x y xs ys h k (to x (contains_first x xs x refl)) (from y (contains_first y ys y refl)) in
      ap (λ (z : X). z ∷ xs) (sym e)
      ∙ ap (λ (zs : List X). y ∷ zs)
      (one_list xs ys (rest x xs h) (rest y ys k) (without_first x y xs ys h e to) (without_first y x ys xs k (sym e) from))

-- operations under way
pub fewer_in_order : (us fewer : List UnderWay) (op : ℕ) → fewer ≡ filter (λ u. not (op == u.op)) us → AreInOrder us → AreInOrder fewer
fewer_in_order us fewer op e h =
    subst (λ (vs : List UnderWay). AreInOrder vs) (sym e) (AllPairs-filter (λ (u v : UnderWay). u.op < v.op) (λ u. not (op == u.op)) us h)

pub none_in_order : (us : List UnderWay) → ((hart op : ℕ) → times hart op us ≡ 0) → AreInOrder us
none_in_order [] h = λ i j d less inside. absurd (omega arith)
none_in_order (u ∷ us) h =
    let some : 0 < times u.hart u.op (u ∷ us) = counted u (u ∷ us) (contains_first u us u refl) in
    let none : times u.hart u.op (u ∷ us) ≡ 0 = h u.hart u.op in
    absurd (omega arith)

-- the operation under way that stands at its place in a slice of the list
pub hart_found : (us seen : List UnderWay) (p op hart : ℕ) (u : UnderWay) → seen ≡ us → p < length seen → u ≡ get_or seen p u → u.op ≡ op →
    (AreInOrder us → IsPartitionPoint (λ v. v.op < op) (λ v. op ≤ v.op) us p) → AreInOrder us →
    (Some u.hart ≡ Some hart) ↔ Contains us (begun_on hart op)
hart_found us seen p op hart u same inside at is place h =
    let there : slice_get us p ≡ Some u = subst (λ (vs : List UnderWay). slice_get vs p ≡ Some u) same (slice_get_read seen (length seen) p u refl inside at) in (
      λ e.
          let its : u.hart ≡ hart = cc in
          let one : u ≡ begun_on hart op = ap (λ (m : ℕ). begun_on m u.op) its ∙ ap (λ (m : ℕ). begun_on hart m) is in
          (p, slice_get_within us p u there, get_or_from_slice_get us p u (begun_on hart op) there ∙ one),
      λ c.
          let begun : slice_get us p ≡ Some (begun_on hart op) = found_at (λ (v : UnderWay). v.op) us p op h (place h) (begun_on hart op) refl c in
          let one : u ≡ begun_on hart op = cc in
          ap (λ (v : UnderWay). Some v.hart) one,
    )

-- another one stands there
pub hart_other : (us seen : List UnderWay) (p op hart : ℕ) (u : UnderWay) → seen ≡ us → p < length seen → u ≡ get_or seen p u → ¬ (u.op ≡ op) →
    (AreInOrder us → IsPartitionPoint (λ v. v.op < op) (λ v. op ≤ v.op) us p) → AreInOrder us → (None ≡ Some hart) ↔ Contains us (begun_on hart op)
hart_other us seen p op hart u same inside at other place h =
    let there : slice_get us p ≡ Some u = subst (λ (vs : List UnderWay). slice_get vs p ≡ Some u) same (slice_get_read seen (length seen) p u refl inside at) in (
      λ e. absurd cc,
      λ c.
          let begun : slice_get us p ≡ Some (begun_on hart op) = found_at (λ (v : UnderWay). v.op) us p op h (place h) (begun_on hart op) refl c in
          let one : u ≡ begun_on hart op = cc in
          absurd (other (ap (λ (v : UnderWay). v.op) one)),
    )

-- nothing stands there
pub hart_none : (us seen : List UnderWay) (p op hart : ℕ) → seen ≡ us → length seen ≤ p →
    (AreInOrder us → IsPartitionPoint (λ v. v.op < op) (λ v. op ≤ v.op) us p) → AreInOrder us → (None ≡ Some hart) ↔ Contains us (begun_on hart op)
hart_none us seen p op hart same past place h = (
  λ e. absurd cc,
  λ c.
      let begun : slice_get us p ≡ Some (begun_on hart op) = found_at (λ (v : UnderWay). v.op) us p op h (place h) (begun_on hart op) refl c in
      let within : p < length us = slice_get_within us p (begun_on hart op) begun in
      absurd (omega (arith, subst (λ (vs : List UnderWay). length vs ≤ p) same past)),
)

-- where the hart that began an operation is known, so it is whether the operation is under way
pub hart_begun : (us : List UnderWay) (op : ℕ) (found : Option ℕ) → ((hart : ℕ) → (found ≡ Some hart) ↔ Contains us (begun_on hart op)) →
    IsTrue (is_some found) ↔ Contains (map (λ u. u.op) us) op
hart_begun us op None h = (
  λ t. absurd (true≢false (sym t)),
  λ c.
      let inside : c.0 < length us = omega (arith, c.1, length-map us (λ (u : UnderWay). u.op)) in
      let u : UnderWay = get_or us c.0 (begun_on 0 op) in
      let its : u.op ≡ op = sym (get_or-map (λ (v : UnderWay). v.op) us c.0 (begun_on 0 op) op inside) ∙ c.2 in
      let one : u ≡ begun_on u.hart op = ap (λ (o : ℕ). begun_on u.hart o) its in
      let none : ◌≡◌ {A = Option ℕ} None (Some u.hart) = (h u.hart).1 (subst (λ (v : UnderWay). Contains us v) one (Contains-get_or us c.0 (begun_on 0 op) inside)) in
      absurd cc,
)
hart_begun us op (Some hart) h = (
  λ t.
      let c : Contains us (begun_on hart op) = (h hart).0 refl in (
        c.0,
        omega (arith, c.1, length-map us (λ (u : UnderWay). u.op)),
        get_or-map (λ (v : UnderWay). v.op) us c.0 (begun_on hart op) op c.1 ∙ ap (λ (v : UnderWay). v.op) c.2,
      ),
  λ c. refl,
)

-- a comparison with the hart that began an operation
pub hart_same : (found : Option ℕ) (hart : ℕ) (differs : Bool) → differs ≡ not (option_eq nat_eq found (Some hart)) → differs ≡ false → found ≡ Some hart
hart_same None hart differs e f = absurd cc
hart_same (Some its) hart differs e f = ap (λ (h : ℕ). Some h) (eqb-true its hart (both_not (its == hart) (sym e ∙ f)))
  where
    both_not : (b : Bool) → not b ≡ false → b ≡ true
    both_not true n = refl
    both_not false n = absurd cc

pub hart_differs : (found : Option ℕ) (hart : ℕ) (differs : Bool) → differs ≡ not (option_eq nat_eq found (Some hart)) → differs ≡ true → ¬ (found ≡ Some hart)
hart_differs found hart differs e t same =
    let alike : (hart == hart) ≡ true = eq-eqb hart hart refl in
    let here : differs ≡ not (hart == hart) = e ∙ ap (λ (o : Option ℕ). not (option_eq nat_eq o (Some hart))) same in
    absurd cc

-- a number that is sought
pub number_searched : (xs : List ℕ) (x : ℕ) (r : Result ℕ ℕ) → Rises (λ y. y) xs → IsBinarySearchResult (λ y. nat_cmp y x) xs r → IsTrue (is_ok r) ↔ Contains xs x
number_searched xs x r h is = by_result r (searched xs x r is (λ i j. not_falling (λ (y : ℕ). y) xs h i j 0))
  where
    by_result : (r : Result ℕ ℕ) → MatchResult r (λ i. (i < length xs) × (get_or xs i 0 ≡ x))
        (λ i. (i ≤ length xs) × ((k : ℕ) → k < i → get_or xs k 0 < x) × ((k : ℕ) → i ≤ k → k < length xs → x < get_or xs k 0)) →
        IsTrue (is_ok r) ↔ Contains xs x
    by_result (Ok i) found = (λ t. subst (λ (y : ℕ). Contains xs y) found.1 (Contains-get_or xs i 0 found.0), λ c. refl)
    by_result (Err i) found = (
      λ t. absurd (true≢false (sym t)),
      λ c.
          let here : get_or xs c.0 0 ≡ x = get_or_default xs c.0 0 x c.1 ∙ c.2 in
          elim (cases_lt c.0 i) [
            | inl before ↦ let less = found.1 c.0 before in absurd (omega arith)
            | inr late ↦ let more = found.2 c.0 late c.1 in absurd (omega arith)
          ],
    )
