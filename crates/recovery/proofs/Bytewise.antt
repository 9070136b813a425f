-- What holds of lines that have the same bytes at some places.
use Rattle.std.proofs.Common.{◌≡◌, ℕ, zero, suc, ◌+◌, ◌/◌, ◌%◌, ◌^◌, ◌<◌, ◌==◌, ◌&&◌, ◌||◌, Bool, true, false, not, eqb, inl, inr, List, [], ◌∷◌, length, get_or, refl, sym, ap, ◌∙◌, arith, true≢false}
use Rattle.std.specs.Prelude.{bit_or, drop}
use Rattle.std.proofs.lemmas.Nat.{shr-shr}
use Rattle.std.proofs.lemmas.Bool.{cases_Bool}
use Rattle.recovery.specs.Images.{same_at}
use Rattle.verdict.proofs.Bytes.{nothing_has, or_has}
use Rattle.verdict.specs.Bytes.{has_byte}

-- at one place
abbrev same_one : ℕ → ℕ → ℕ → ℕ → Bool
same_one bytes i x y = not (has_byte bytes i) || (x == y)

both : (a b : Bool) → a ≡ true → b ≡ true → (a && b) ≡ true
both a b e f = rw (e, f) refl

left : (a b : Bool) → (a && b) ≡ true → a ≡ true
left true b h = refl
left false b h = absurd (true≢false (sym h))

right : (a b : Bool) → (a && b) ≡ true → b ≡ true
right true b h = h
right false b h = absurd (true≢false (sym h))

one_itself : (bytes i x : ℕ) → same_one bytes i x x ≡ true
one_itself bytes i x = let e : eqb x x ≡ true = grind arith in rw e (elim (not (has_byte bytes i)) as (λ b. (b || true) ≡ true) [ true ↦ refl | false ↦ refl ])

one_back : (bytes i x y : ℕ) → same_one bytes i x y ≡ true → same_one bytes i y x ≡ true
one_back bytes i x y h = elim (cases_Bool (has_byte bytes i)) [
  | inl t ↦ let e : eqb x y ≡ true = rw t at h in let f : eqb y x ≡ true = grind (arith, e) in rw (t, f) refl
  | inr f ↦ rw f refl
]

one_on : (bytes i x y z : ℕ) → same_one bytes i x y ≡ true → same_one bytes i y z ≡ true → same_one bytes i x z ≡ true
one_on bytes i x y z h g = elim (cases_Bool (has_byte bytes i)) [
  | inl t ↦ let e : eqb x y ≡ true = rw t at h in let f : eqb y z ≡ true = rw t at g in let d : eqb x z ≡ true = grind (arith, e, f) in rw (t, d) refl
  | inr f ↦ rw f refl
]

pub same_itself : (bytes i : ℕ) (xs : List ℕ) → same_at bytes i xs xs ≡ true
same_itself bytes i [] = refl
same_itself bytes i (x ∷ xs) = both (same_one bytes i x x) (same_at bytes (i + 1) xs xs) (one_itself bytes i x) (same_itself bytes (i + 1) xs)

pub same_back : (bytes i : ℕ) (xs ys : List ℕ) → same_at bytes i xs ys ≡ true → same_at bytes i ys xs ≡ true
same_back bytes i [] [] h = refl
same_back bytes i [] (y ∷ ys) h =
    both (not (has_byte bytes i)) (same_at bytes (i + 1) ys []) (left (not (has_byte bytes i)) (same_at bytes (i + 1) [] ys) h)
    (same_back bytes (i + 1) [] ys (right (not (has_byte bytes i)) (same_at bytes (i + 1) [] ys) h))
same_back bytes i (x ∷ xs) [] h =
    both (not (has_byte bytes i)) (same_at bytes (i + 1) [] xs) (left (not (has_byte bytes i)) (same_at bytes (i + 1) xs []) h)
    (same_back bytes (i + 1) xs [] (right (not (has_byte bytes i)) (same_at bytes (i + 1) xs []) h))
same_back bytes i (x ∷ xs) (y ∷ ys) h =
    both (same_one bytes i y x) (same_at bytes (i + 1) ys xs) (one_back bytes i x y (left (same_one bytes i x y) (same_at bytes (i + 1) xs ys) h))
    (same_back bytes (i + 1) xs ys (right (same_one bytes i x y) (same_at bytes (i + 1) xs ys) h))

-- where no byte is asked, numbers need not be the same
unasked : (bytes i x y : ℕ) → not (has_byte bytes i) ≡ true → same_one bytes i x y ≡ true
unasked bytes i x y h = rw h refl

pub same_on : (bytes i : ℕ) (xs ys zs : List ℕ) → same_at bytes i xs ys ≡ true → same_at bytes i ys zs ≡ true → same_at bytes i xs zs ≡ true
same_on bytes i [] [] zs h g = g
same_on bytes i [] (y ∷ ys) [] h g = refl
same_on bytes i [] (y ∷ ys) (z ∷ zs) h g =
    both (not (has_byte bytes i)) (same_at bytes (i + 1) [] zs) (left (not (has_byte bytes i)) (same_at bytes (i + 1) [] ys) h)
    (same_on bytes (i + 1) [] ys zs (right (not (has_byte bytes i)) (same_at bytes (i + 1) [] ys) h) (right (same_one bytes i y z) (same_at bytes (i + 1) ys zs) g))
same_on bytes i (x ∷ xs) [] [] h g = h
same_on bytes i (x ∷ xs) [] (z ∷ zs) h g =
    both (same_one bytes i x z) (same_at bytes (i + 1) xs zs) (unasked bytes i x z (left (not (has_byte bytes i)) (same_at bytes (i + 1) xs []) h))
    (same_on bytes (i + 1) xs [] zs (right (not (has_byte bytes i)) (same_at bytes (i + 1) xs []) h) (right (not (has_byte bytes i)) (same_at bytes (i + 1) [] zs) g))
same_on bytes i (x ∷ xs) (y ∷ ys) [] h g =
    both (not (has_byte bytes i)) (same_at bytes (i + 1) xs []) (left (not (has_byte bytes i)) (same_at bytes (i + 1) ys []) g)
    (same_on bytes (i + 1) xs ys [] (right (same_one bytes i x y) (same_at bytes (i + 1) xs ys) h) (right (not (has_byte bytes i)) (same_at bytes (i + 1) ys []) g))
same_on bytes i (x ∷ xs) (y ∷ ys) (z ∷ zs) h g =
    both (same_one bytes i x z) (same_at bytes (i + 1) xs zs)
    (one_on bytes i x y z (left (same_one bytes i x y) (same_at bytes (i + 1) xs ys) h) (left (same_one bytes i y z) (same_at bytes (i + 1) ys zs) g))
    (same_on bytes (i + 1) xs ys zs (right (same_one bytes i x y) (same_at bytes (i + 1) xs ys) h) (right (same_one bytes i y z) (same_at bytes (i + 1) ys zs) g))

-- where no byte is asked, lines are the same
none_asked : (i : ℕ) → not (has_byte 0 i) ≡ true
none_asked i = rw (nothing_has i) refl

pub same_nowhere : (i : ℕ) (xs ys : List ℕ) → same_at 0 i xs ys ≡ true
same_nowhere i [] [] = refl
same_nowhere i [] (y ∷ ys) = both (not (has_byte 0 i)) (same_at 0 (i + 1) [] ys) (none_asked i) (same_nowhere (i + 1) [] ys)
same_nowhere i (x ∷ xs) [] = both (not (has_byte 0 i)) (same_at 0 (i + 1) xs []) (none_asked i) (same_nowhere (i + 1) xs [])
same_nowhere i (x ∷ xs) (y ∷ ys) = both (same_one 0 i x y) (same_at 0 (i + 1) xs ys) (unasked 0 i x y (none_asked i)) (same_nowhere (i + 1) xs ys)

-- bytes are asked one by one
both_one : (p q e : Bool) → (not (p || q) || e) ≡ ((not p || e) && (not q || e))
both_one true true true = refl
both_one true true false = refl
both_one true false true = refl
both_one true false false = refl
both_one false true true = refl
both_one false true false = refl
both_one false false e = refl

across : (a b c d : Bool) → ((a && b) && (c && d)) ≡ ((a && c) && (b && d))
across true true c d = refl
across true false true d = refl
across true false false d = refl
across false b c d = refl

both_ends : (p q : Bool) → not (p || q) ≡ (not p && not q)
both_ends true q = refl
both_ends false q = refl

pub same_both : (a b i : ℕ) (xs ys : List ℕ) → same_at (bit_or a b) i xs ys ≡ (same_at a i xs ys && same_at b i xs ys)
same_both a b i [] [] = refl
same_both a b i [] (y ∷ ys) =
    ap (λ (h : Bool). not h && same_at (bit_or a b) (i + 1) [] ys) (or_has a b i)
    ∙ ap (λ (h : Bool). h && same_at (bit_or a b) (i + 1) [] ys) (both_ends (has_byte a i) (has_byte b i))
    ∙ ap (λ (h : Bool). (not (has_byte a i) && not (has_byte b i)) && h) (same_both a b (i + 1) [] ys)
    ∙ across (not (has_byte a i)) (not (has_byte b i)) (same_at a (i + 1) [] ys) (same_at b (i + 1) [] ys)
same_both a b i (x ∷ xs) [] =
    ap (λ (h : Bool). not h && same_at (bit_or a b) (i + 1) xs []) (or_has a b i)
    ∙ ap (λ (h : Bool). h && same_at (bit_or a b) (i + 1) xs []) (both_ends (has_byte a i) (has_byte b i))
    ∙ ap (λ (h : Bool). (not (has_byte a i) && not (has_byte b i)) && h) (same_both a b (i + 1) xs [])
    ∙ across (not (has_byte a i)) (not (has_byte b i)) (same_at a (i + 1) xs []) (same_at b (i + 1) xs [])
same_both a b i (x ∷ xs) (y ∷ ys) =
    ap (λ (h : Bool). (not h || (x == y)) && same_at (bit_or a b) (i + 1) xs ys) (or_has a b i)
    ∙ ap (λ (h : Bool). h && same_at (bit_or a b) (i + 1) xs ys) (both_one (has_byte a i) (has_byte b i) (x == y))
    ∙ ap (λ (h : Bool). (same_one a i x y && same_one b i x y) && h) (same_both a b (i + 1) xs ys)
    ∙ across (same_one a i x y) (same_one b i x y) (same_at a (i + 1) xs ys) (same_at b (i + 1) xs ys)

-- lines are looked at byte by byte
same_rest : (bytes b i d : ℕ) (xs ys : List ℕ) → i < length xs → i < length ys →
    same_at bytes b (drop i xs) (drop i ys) ≡ (same_one bytes b (get_or xs i d) (get_or ys i d) && same_at bytes (b + 1) (drop (suc i) xs) (drop (suc i) ys))
same_rest bytes b i d [] ys less h = absurd (omega (arith, less))
same_rest bytes b i d (x ∷ xs) [] less h = absurd (omega (arith, h))
same_rest bytes b zero d (x ∷ xs) (y ∷ ys) less h = refl
same_rest bytes b (suc i) d (x ∷ xs) (y ∷ ys) less h = same_rest bytes b i d xs ys (omega (arith, less)) (omega (arith, h))

pub same_more : (bytes i d : ℕ) (xs ys : List ℕ) → i < length xs → i < length ys →
    same_at bytes i (drop i xs) (drop i ys)
    ≡ ((not (has_byte bytes i) || (get_or xs i d == get_or ys i d)) && same_at bytes (i + 1) (drop (i + 1) xs) (drop (i + 1) ys))
same_more bytes i d xs ys less h =
    let next : suc i ≡ i + 1 = omega arith in
    same_rest bytes i i d xs ys less h
    ∙ ap (λ (n : ℕ). same_one bytes i (get_or xs i d) (get_or ys i d) && same_at bytes (i + 1) (drop n xs) (drop n ys)) next

-- past the last byte that is asked
past_asked : (bytes i : ℕ) → bytes / 2 ^ i ≡ 0 → not (has_byte bytes i) ≡ true
past_asked bytes i none = ap (λ (n : ℕ). not (eqb (n % 2) 1)) none

none_later : (bytes i : ℕ) → bytes / 2 ^ i ≡ 0 → bytes / 2 ^ (i + 1) ≡ 0
none_later bytes i none = sym (shr-shr bytes i 1) ∙ ap (λ (n : ℕ). n / 2 ^ 1) none

pub same_past : (bytes i : ℕ) (xs ys : List ℕ) → bytes / 2 ^ i ≡ 0 → same_at bytes i xs ys ≡ true
same_past bytes i [] [] none = refl
same_past bytes i [] (y ∷ ys) none =
    both (not (has_byte bytes i)) (same_at bytes (i + 1) [] ys) (past_asked bytes i none) (same_past bytes (i + 1) [] ys (none_later bytes i none))
same_past bytes i (x ∷ xs) [] none =
    both (not (has_byte bytes i)) (same_at bytes (i + 1) xs []) (past_asked bytes i none) (same_past bytes (i + 1) xs [] (none_later bytes i none))
same_past bytes i (x ∷ xs) (y ∷ ys) none =
    both (same_one bytes i x y) (same_at bytes (i + 1) xs ys) (unasked bytes i x y (past_asked bytes i none)) (same_past bytes (i + 1) xs ys (none_later bytes i none))
