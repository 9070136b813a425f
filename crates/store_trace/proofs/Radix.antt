-- The cut of a number by mixed radix, the highest line varying fastest, is the one that the list of cuts has there.
use Rattle.std.proofs.Common.{◌≡◌, ℕ, zero, suc, ◌+◌, ◌-◌, ◌*◌, ◌/◌, ◌%◌, ◌<◌, ◌≤◌, ◌⊎◌, inl, inr, List, [], ◌∷◌, length, get_or, arith, refl, ap, ◌∙◌, sym, subst}
use Rattle.std.specs.Prelude.{map, All, AllPairs, Contains, ◌↔◌}
use Rattle.std.proofs.Math.Nat.{add-mul-div_left, mod-eq_of_lt, div-eq_of_lt, div-add-mod, mod-lt, div-lt_iff_lt-mul, lt-div-mul-add, mul-pos, mul-zero, suc-mul, mul-le-mul_left}
use Rattle.std.proofs.lemmas.Bool.{cases_lt}
use Rattle.std.proofs.lemmas.Grind.{common_steps}
use Rattle.std.proofs.lemmas.List.{get_or-map, length-map, get_or_append_left, get_or-append_right}
use Rattle.std.proofs.lemmas.Nat.{div-mul-add, mod-mul-add}
use Rattle.std.proofs.lemmas.List.Elements.{All-cons, All-nil}
use Rattle.store_trace.proofs.Bounds.{floor_le_stores}
use Rattle.store_trace.specs.Cut.{IsCut, IsBefore, choices, width_of, cuts_of, cuts, count_of, cut_count, stored_lines}
use Rattle.store_trace.specs.Floor.{floor}
use Rattle.store_trace.specs.Stores.{stores}
use Rattle.store_trace.specs.declared.crash_model.step.PersistenceStep.{PersistenceStep}

-- the cut of number n of these lines
abbrev pub radix_cut : List PersistenceStep → List ℕ → ℕ → List (ℕ × ℕ)
radix_cut p [] n = []
radix_cut p (l ∷ ls) n = (l, floor l p + n / count_of p ls) ∷ radix_cut p ls (n % count_of p ls)

-- the number of a cut
abbrev pub radix_number : List PersistenceStep → List (ℕ × ℕ) → ℕ
radix_number p [] = 0
radix_number p (entry ∷ cut) = (entry.1 - floor entry.0 p) * count_of p (map (λ e. e.0) cut) + radix_number p cut

length_choices : (l low many : ℕ) (rest : List (List (ℕ × ℕ))) → length (choices l low many rest) ≡ many * length rest
length_choices l low zero rest = omega arith
length_choices l low (suc many) rest =
    grind (arith, common_steps, length_choices l (low + 1) many rest)

pub length_cuts_of : (p : List PersistenceStep) (ls : List ℕ) → length (cuts_of p ls) ≡ count_of p ls
length_cuts_of p [] = refl
length_cuts_of p (l ∷ ls) =
    length_choices l (floor l p) (width_of p l) (cuts_of p ls) ∙ ap (λ (n : ℕ). width_of p l * n) (length_cuts_of p ls)

pub zero_lt_count : (p : List PersistenceStep) (ls : List ℕ) → 0 < count_of p ls
zero_lt_count p [] = omega arith
zero_lt_count p (l ∷ ls) = let w : 0 < width_of p l = omega arith in mul-pos w (zero_lt_count p ls)

div_further : (n d : ℕ) → 0 < d → d ≤ n → n / d ≡ (n - d) / d + 1
div_further n d h b =
    let e : (n - d) + d * 1 ≡ n = omega arith in
    rw e at (add-mul-div_left (n - d) 1 h)

mod_further : (n d : ℕ) → 0 < d → d ≤ n → n % d ≡ (n - d) % d
mod_further n d h b =
    omega (arith, div-add-mod n d, div-add-mod (n - d) d, ap (λ (q : ℕ). d * q) (div_further n d h b))

some_rest : (many d n : ℕ) → n < suc many * d → 0 < d
some_rest many zero n h = absurd (omega (arith, mul-zero (suc many)))
some_rest many (suc d) n h = omega arith

less_rest : (many d n : ℕ) → n < suc many * d → d ≤ n → n - d < many * d
less_rest many d n h b = omega (arith, suc-mul many d)

choices_at : (l low many : ℕ) (rest : List (List (ℕ × ℕ))) (n : ℕ) → n < many * length rest →
    get_or (choices l low many rest) n [] ≡ (l, low + n / length rest) ∷ get_or rest (n % length rest) []
choices_at l low zero rest n h = absurd (omega arith)
choices_at l low (suc many) rest n h =
    let front : List (List (ℕ × ℕ)) = map (λ cut. (l, low) ∷ cut) rest in
    let len : length front ≡ length rest = length-map rest (λ cut. (l, low) ∷ cut) in
    elim (cases_lt n (length rest)) [
      | inl first ↦
          let inside : n < length front = omega arith in
          get_or_append_left front (choices l (low + 1) many rest) [] n inside
          ∙ get_or-map (λ cut. (l, low) ∷ cut) rest n [] [] first
          ∙ rw (div-eq_of_lt first, mod-eq_of_lt first) (let e : low + 0 ≡ low = omega arith in rw e refl)
      | inr later ↦
          let some : 0 < length rest = some_rest many (length rest) n h in
          get_or-append_right front (choices l (low + 1) many rest) (length rest) n [] len later
          ∙ (choices_at l (low + 1) many rest (n - length rest) (less_rest many (length rest) n h later))
          ∙ rw (div_further n (length rest) some later, mod_further n (length rest) some later)
          (let e : low + 1 + (n - length rest) / length rest ≡ low + ((n - length rest) / length rest + 1) = omega arith in rw e refl)
    ]

pub cuts_of_at : (p : List PersistenceStep) (ls : List ℕ) (n : ℕ) → n < count_of p ls →
    get_or (cuts_of p ls) n [] ≡ radix_cut p ls n
cuts_of_at p [] n h = let e : n ≡ 0 = omega arith in rw e refl
cuts_of_at p (l ∷ ls) n h =
    let len : length (cuts_of p ls) ≡ count_of p ls = length_cuts_of p ls in
    let inside : n < width_of p l * length (cuts_of p ls) = rw len h in
    choices_at l (floor l p) (width_of p l) (cuts_of p ls) n inside
    ∙ rw len (ap (λ (c : List (ℕ × ℕ)). (l, floor l p + n / count_of p ls) ∷ c) (cuts_of_at p ls (n % count_of p ls) (mod-lt n (zero_lt_count p ls))))

radix_cut_lines : (p : List PersistenceStep) (ls : List ℕ) (n : ℕ) → map (λ entry. entry.0) (radix_cut p ls n) ≡ ls
radix_cut_lines p [] n = refl
radix_cut_lines p (l ∷ ls) n = ap (λ (m : List ℕ). l ∷ m) (radix_cut_lines p ls (n % count_of p ls))

radix_cut_low : (p : List PersistenceStep) (ls : List ℕ) (n : ℕ) → All (λ entry. floor entry.0 p ≤ entry.1) (radix_cut p ls n)
radix_cut_low p [] n = All-nil _
radix_cut_low p (l ∷ ls) n =
    let low : floor l p ≤ floor l p + n / count_of p ls = omega arith in
    All-cons (λ (entry : ℕ × ℕ). floor entry.0 p ≤ entry.1) (l, floor l p + n / count_of p ls) _ low (radix_cut_low p ls (n % count_of p ls))

radix_cut_high : (p : List PersistenceStep) (ls : List ℕ) (n : ℕ) → n < count_of p ls →
    All (λ entry. entry.1 ≤ stores entry.0 p) (radix_cut p ls n)
radix_cut_high p [] n h = All-nil _
radix_cut_high p (l ∷ ls) n h =
    let c : 0 < count_of p ls = zero_lt_count p ls in
    let q : n / count_of p ls < width_of p l = (div-lt_iff_lt-mul c).1 h in
    let high : floor l p + n / count_of p ls ≤ stores l p = omega (arith, floor_le_stores l p) in
    All-cons (λ (entry : ℕ × ℕ). entry.1 ≤ stores entry.0 p) (l, floor l p + n / count_of p ls) _ high (radix_cut_high p ls (n % count_of p ls) (mod-lt n c))

row_lt : (a d w b : ℕ) → a + 1 ≤ w → b < d → a * d + b < w * d
row_lt a d w b h k = omega (arith, mul-le-mul_left d h)

-- a cut's number is below the count, and gives the cut back
radix_number_lt : (p : List PersistenceStep) (cut : List (ℕ × ℕ)) →
    All (λ entry. floor entry.0 p ≤ entry.1) cut → All (λ entry. entry.1 ≤ stores entry.0 p) cut →
    radix_number p cut < count_of p (map (λ entry. entry.0) cut)
radix_number_lt p [] low high = omega arith
radix_number_lt p (entry ∷ cut) low high =
    let rest : radix_number p cut < count_of p (map (λ e. e.0) cut) =
    radix_number_lt p cut (λ i d h. low (suc i) d (omega arith)) (λ i d h. high (suc i) d (omega arith)) in
    let first : floor entry.0 p ≤ entry.1 = low 0 entry (omega arith) in
    let last : entry.1 ≤ stores entry.0 p = high 0 entry (omega arith) in
    let top : entry.1 - floor entry.0 p + 1 ≤ width_of p entry.0 = omega arith in
    row_lt (entry.1 - floor entry.0 p) (count_of p (map (λ e. e.0) cut)) (width_of p entry.0) (radix_number p cut) top rest

radix_cut_number : (p : List PersistenceStep) (cut : List (ℕ × ℕ)) →
    All (λ entry. floor entry.0 p ≤ entry.1) cut → All (λ entry. entry.1 ≤ stores entry.0 p) cut →
    radix_cut p (map (λ entry. entry.0) cut) (radix_number p cut) ≡ cut
radix_cut_number p [] low high = refl
radix_cut_number p (entry ∷ cut) low high =
    let small : radix_number p cut < count_of p (map (λ e. e.0) cut) =
    radix_number_lt p cut (λ i d h. low (suc i) d (omega arith)) (λ i d h. high (suc i) d (omega arith)) in
    let first : floor entry.0 p ≤ entry.1 = low 0 entry (omega arith) in
    let back : floor entry.0 p + (entry.1 - floor entry.0 p) ≡ entry.1 = omega arith in
    rw (
      div-mul-add (entry.1 - floor entry.0 p) (count_of p (map (λ e. e.0) cut)) (radix_number p cut) small,
      mod-mul-add (entry.1 - floor entry.0 p) (count_of p (map (λ e. e.0) cut)) (radix_number p cut) small,
      back,
    )
    (ap (λ (c : List (ℕ × ℕ)). entry ∷ c) (radix_cut_number p cut (λ i d h. low (suc i) d (omega arith)) (λ i d h. high (suc i) d (omega arith))))

-- of two numbers, the lower one has the earlier cut
mod_order : (i j c : ℕ) → 0 < c → i < j → i / c ≡ j / c → i % c < j % c
mod_order i j c h b e = omega (arith, div-add-mod i c, div-add-mod j c, ap (λ (q : ℕ). c * q) e)

quotient_same : (i j c : ℕ) → 0 < c → i < j → j / c ≤ i / c → i / c ≡ j / c
quotient_same i j c h b more =
    let row : suc (j / c) * c ≡ j / c * c + c = suc-mul (j / c) c in
    let end : j < j / c * c + c = lt-div-mul-add h in
    let inside : i < suc (j / c) * c = omega arith in
    let low : i / c < suc (j / c) = (div-lt_iff_lt-mul h).1 inside in
    omega arith

div_order : (i j c : ℕ) → 0 < c → i < j → (i / c < j / c) ⊎ (i / c ≡ j / c)
div_order i j c h b = elim (cases_lt (i / c) (j / c)) [
  | inl less ↦ inl less
  | inr more ↦
      inr (quotient_same i j c h b more)
]

radix_cut_order : (p : List PersistenceStep) (ls : List ℕ) (i j : ℕ) → i < j → j < count_of p ls →
    IsBefore (radix_cut p ls i) (radix_cut p ls j)
radix_cut_order p [] i j b h = absurd (omega arith)
radix_cut_order p (l ∷ ls) i j b h =
    let c : 0 < count_of p ls = zero_lt_count p ls in
    elim (div_order i j (count_of p ls) c b) [
      | inl less ↦ inl (omega arith)
      | inr level ↦ inr (
        ap (λ (q : ℕ). floor l p + q) level,
        radix_cut_order p ls (i % count_of p ls) (j % count_of p ls) (mod_order i j (count_of p ls) c b level) (mod-lt j c),
      )
    ]

-- the default of a read within the list doesn't matter
any_default : (xs : List (List (ℕ × ℕ))) (i : ℕ) (d : List (ℕ × ℕ)) → i < length xs → get_or xs i [] ≡ get_or xs i d
any_default [] i d h = absurd (omega arith)
any_default (x ∷ xs) zero d h = refl
any_default (x ∷ xs) (suc i) d h = any_default xs i d (omega arith)

-- the list of cuts: each cut once, in lexicographic order
pub length_cuts : (p : List PersistenceStep) → length (cuts p) ≡ cut_count p
length_cuts p = length_cuts_of p (stored_lines p)

pub cuts_at : (p : List PersistenceStep) (n : ℕ) → n < cut_count p → get_or (cuts p) n [] ≡ radix_cut p (stored_lines p) n
cuts_at p n h = cuts_of_at p (stored_lines p) n h

pub cut_of_number : (p : List PersistenceStep) (n : ℕ) → n < cut_count p → IsCut p (radix_cut p (stored_lines p) n)
cut_of_number p n h = record {
  lines = radix_cut_lines p (stored_lines p) n;
  low = radix_cut_low p (stored_lines p) n;
  high = radix_cut_high p (stored_lines p) n h;
}

IsCut_from_place : (p : List PersistenceStep) (cut : List (ℕ × ℕ)) → Contains (cuts p) cut → IsCut p cut
IsCut_from_place p cut c =
    let inside : c.0 < cut_count p = omega (arith, c.1, length_cuts p) in
    let same : radix_cut p (stored_lines p) c.0 ≡ cut =
    sym (cuts_at p c.0 inside) ∙ any_default (cuts p) c.0 cut c.1 ∙ c.2 in
    subst (λ (d : List (ℕ × ℕ)). IsCut p d) same (cut_of_number p c.0 inside)

-- the place of a cut in the list
pub radix_number_place : (p : List PersistenceStep) (cut : List (ℕ × ℕ)) → IsCut p cut →
    (radix_number p cut < cut_count p) × (get_or (cuts p) (radix_number p cut) [] ≡ cut)
radix_number_place p cut c =
    let inside : radix_number p cut < cut_count p =
    subst (λ (ls : List ℕ). radix_number p cut < count_of p ls) c.lines (radix_number_lt p cut c.low c.high) in
    let same : radix_cut p (stored_lines p) (radix_number p cut) ≡ cut =
    subst (λ (ls : List ℕ). radix_cut p ls (radix_number p cut) ≡ cut) c.lines (radix_cut_number p cut c.low c.high) in
    (inside, cuts_at p (radix_number p cut) inside ∙ same)

place_from_IsCut : (p : List PersistenceStep) (cut : List (ℕ × ℕ)) → IsCut p cut → Contains (cuts p) cut
place_from_IsCut p cut c =
    let at = radix_number_place p cut c in
    let inside : radix_number p cut < length (cuts p) = omega (arith, at.0, length_cuts p) in
    (radix_number p cut, inside, sym (any_default (cuts p) (radix_number p cut) cut inside) ∙ at.1)

pub cuts_exact : (p : List PersistenceStep) (cut : List (ℕ × ℕ)) → IsCut p cut ↔ Contains (cuts p) cut
cuts_exact p cut = (place_from_IsCut p cut, IsCut_from_place p cut)

pub cuts_order : (p : List PersistenceStep) → AllPairs IsBefore (cuts p)
cuts_order p i j d b h =
    let inside : j < cut_count p = omega (arith, h, length_cuts p) in
    let first : radix_cut p (stored_lines p) i ≡ get_or (cuts p) i d =
    sym (cuts_at p i (omega arith)) ∙ any_default (cuts p) i d (omega arith) in
    let second : radix_cut p (stored_lines p) j ≡ get_or (cuts p) j d =
    sym (cuts_at p j inside) ∙ any_default (cuts p) j d h in
    rw (← first, ← second) (radix_cut_order p (stored_lines p) i j b inside)
