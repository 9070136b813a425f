-- A small recovery over one line: it asks byte 0, and byte 8 too where byte 0 is the key. An image is bad where both are asked and byte 8
-- is at least so much, and that byte is the cause. `first` and `later` are these bytes after each number of stores.
use Rattle.std.proofs.Common.{◌≡◌, ℕ, zero, suc, ◌+◌, ◌==◌, ◌&&◌, ◌||◌, nat_le, eqb, Bool, true, false, not, List, [], ◌∷◌, take, slice_index, if◌then◌else◌, Option, Some, None, refl, sym, ap, subst, ◌∙◌, arith, true≢false}
use Rattle.std.specs.Prelude.{bit_or}
use Rattle.verdict.proofs.Bytes.{or_has}
use Rattle.verdict.specs.Branches.{Agree, IsAdaptive, IsEquivalence, IsShared, question}
use Rattle.verdict.specs.Bytes.{has_byte}
use Rattle.verdict.specs.declared.branches.question.Question.{Question}

-- where a byte is asked, it is the same
abbrev pub same_if : Bool → ℕ → ℕ → Bool
same_if asked x y = not asked || (x == y)

-- whether the bytes of a question are the same after two numbers of stores
abbrev pub two_alike : List ℕ → List ℕ → Question → ℕ → ℕ → Bool
two_alike first later q n m =
    same_if (has_byte q.bytes 0) (slice_index first n) (slice_index first m) && same_if (has_byte q.bytes 8) (slice_index later n) (slice_index later m)

abbrev pub asked_if : Bool → List Question
asked_if true = question 0 1 ∷ question 0 256 ∷ []
asked_if false = question 0 1 ∷ []

abbrev pub cause_if : Bool → ℕ → ℕ → Option ℕ
cause_if true bad byte = if nat_le bad byte then Some byte else None
cause_if false bad byte = None

-- of the image of the cut c this is asked
abbrev pub Asks : List ℕ → ℕ → (ℕ → ℕ) → List Question → Type 0
Asks first key c questions = questions ≡ asked_if (slice_index first (c 0) == key)

-- and it is bad for this cause, or passes
abbrev pub IsJudged : List ℕ → List ℕ → ℕ → ℕ → (ℕ → ℕ) → Option ℕ → Type 0
IsJudged first later key bad c found = found ≡ cause_if (slice_index first (c 0) == key) bad (slice_index later (c 0))

both : (a b : Bool) → a ≡ true → b ≡ true → (a && b) ≡ true
both a b e f = rw (e, f) refl

left : (a b : Bool) → (a && b) ≡ true → a ≡ true
left true b h = refl
left false b h = absurd (true≢false (sym h))

right : (a b : Bool) → (a && b) ≡ true → b ≡ true
right true b h = h
right false b h = absurd (true≢false (sym h))

one_itself : (asked : Bool) (x : ℕ) → same_if asked x x ≡ true
one_itself true x = grind arith
one_itself false x = refl

one_back : (asked : Bool) (x y : ℕ) → same_if asked x y ≡ true → same_if asked y x ≡ true
one_back true x y h = let e : eqb x y ≡ true = h in grind (arith, e)
one_back false x y h = refl

one_on : (asked : Bool) (x y z : ℕ) → same_if asked x y ≡ true → same_if asked y z ≡ true → same_if asked x z ≡ true
one_on true x y z h g = let e : eqb x y ≡ true = h in let f : eqb y z ≡ true = g in grind (arith, e, f)
one_on false x y z h g = refl

pub alike_equal : (first later : List ℕ) → IsEquivalence (two_alike first later)
alike_equal first later = record {
  itself = λ q n. both _ _ (one_itself (has_byte q.bytes 0) (slice_index first n)) (one_itself (has_byte q.bytes 8) (slice_index later n));
  back = λ q n m h. both _ _
      (one_back (has_byte q.bytes 0) (slice_index first n) (slice_index first m) (left _ _ h))
      (one_back (has_byte q.bytes 8) (slice_index later n) (slice_index later m) (right (same_if (has_byte q.bytes 0) (slice_index first n) (slice_index first m)) _ h));
  on = λ q n m o h g. both _ _
      (one_on (has_byte q.bytes 0) (slice_index first n) (slice_index first m) (slice_index first o) (left _ _ h) (left _ _ g))
      (one_on (has_byte q.bytes 8) (slice_index later n) (slice_index later m) (slice_index later o)
      (right (same_if (has_byte q.bytes 0) (slice_index first n) (slice_index first m)) _ h)
      (right (same_if (has_byte q.bytes 0) (slice_index first m) (slice_index first o)) _ g));
}

pub alike_nothing : (first later : List ℕ) (l n m : ℕ) → two_alike first later (question l 0) n m ≡ true
alike_nothing first later l n m = refl

-- bytes are asked one by one
one_both : (a b e : Bool) → (not (a || b) || e) ≡ ((not a || e) && (not b || e))
one_both true true true = refl
one_both true true false = refl
one_both true false true = refl
one_both true false false = refl
one_both false true true = refl
one_both false true false = refl
one_both false false e = refl

across : (a b c d : Bool) → ((a && b) && (c && d)) ≡ ((a && c) && (b && d))
across true true c d = refl
across true false true d = refl
across true false false d = refl
across false b c d = refl

pub alike_both : (first later : List ℕ) (l a b n m : ℕ) →
    two_alike first later (question l (bit_or a b)) n m ≡ (two_alike first later (question l a) n m && two_alike first later (question l b) n m)
alike_both first later l a b n m =
    let x : Bool = slice_index first n == slice_index first m in
    let y : Bool = slice_index later n == slice_index later m in
    ap (λ (h : Bool). (not h || x) && (not (has_byte (bit_or a b) 8) || y)) (or_has a b 0)
    ∙ ap (λ (h : Bool). (not (has_byte a 0 || has_byte b 0) || x) && (not h || y)) (or_has a b 8)
    ∙ ap (λ (h : Bool). h && (not (has_byte a 8 || has_byte b 8) || y)) (one_both (has_byte a 0) (has_byte b 0) x)
    ∙ ap (λ (h : Bool). ((not (has_byte a 0) || x) && (not (has_byte b 0) || x)) && h) (one_both (has_byte a 8) (has_byte b 8) y)
    ∙ across (not (has_byte a 0) || x) (not (has_byte b 0) || x) (not (has_byte a 8) || y) (not (has_byte b 8) || y)

-- what byte 0 and byte 8 are where a question of that byte alone is alike
first_known : (first later : List ℕ) (n m : ℕ) → two_alike first later (question 0 1) n m ≡ true → slice_index first n ≡ slice_index first m
first_known first later n m h =
    let e : eqb (slice_index first n) (slice_index first m) ≡ true = left (eqb (slice_index first n) (slice_index first m)) true h in grind (arith, e)

later_known : (first later : List ℕ) (n m : ℕ) → two_alike first later (question 0 256) n m ≡ true → slice_index later n ≡ slice_index later m
later_known first later n m h = let e : eqb (slice_index later n) (slice_index later m) ≡ true = h in grind (arith, e)

first_same : (x y : Bool) → take 1 (asked_if x) ≡ take 1 (asked_if y)
first_same true true = refl
first_same true false = refl
first_same false true = refl
first_same false false = refl

agree_first : (first later : List ℕ) (x : Bool) (n : ℕ) (k c : ℕ → ℕ) → Agree (two_alike first later) k c (take (suc n) (asked_if x)) →
    slice_index first (k 0) ≡ slice_index first (c 0)
agree_first first later true n k c h = first_known first later (k 0) (c 0) h.0
agree_first first later false n k c h = first_known first later (k 0) (c 0) h.0

agree_all : (first later : List ℕ) (x : Bool) (k c : ℕ → ℕ) → Agree (two_alike first later) k c (asked_if x) → slice_index first (k 0) ≡ slice_index first (c 0)
agree_all first later true k c h = first_known first later (k 0) (c 0) h.0
agree_all first later false k c h = first_known first later (k 0) (c 0) h.0

pub adaptive : (first later : List ℕ) (key : ℕ) → IsAdaptive (two_alike first later) (Asks first key)
adaptive first later key c k qs rs zero a b h =
    ap (λ (xs : List Question). take 1 xs) b ∙ first_same (slice_index first (k 0) == key) (slice_index first (c 0) == key)
    ∙ ap (λ (xs : List Question). take 1 xs) (sym a)
adaptive first later key c k qs rs (suc n) a b h =
    let e = agree_first first later (slice_index first (c 0) == key) n k c
    (subst (λ (xs : List Question). Agree (two_alike first later) k c (take (suc n) xs)) a h) in
    ap (λ (xs : List Question). take (suc n + 1) xs) (b ∙ ap (λ (byte : ℕ). asked_if (byte == key)) e ∙ sym a)

pub shared : (first later : List ℕ) (key : ℕ) → IsShared (two_alike first later) (Asks first key)
shared first later key c k qs a h =
    let e = agree_all first later (slice_index first (c 0) == key) k c (subst (λ (xs : List Question). Agree (two_alike first later) k c xs) a h) in
    a ∙ sym (ap (λ (byte : ℕ). asked_if (byte == key)) e)

same_cause : (first later : List ℕ) (x : Bool) (bad : ℕ) (k c : ℕ → ℕ) → Agree (two_alike first later) k c (asked_if x) →
    cause_if x bad (slice_index later (k 0)) ≡ cause_if x bad (slice_index later (c 0))
same_cause first later true bad k c h = ap (λ (byte : ℕ). cause_if true bad byte) (later_known first later (k 0) (c 0) h.1.0)
same_cause first later false bad k c h = refl

pub branchwise : (first later : List ℕ) (key bad : ℕ) (c k : ℕ → ℕ) (qs : List Question) (found : Option ℕ) →
    Asks first key c qs → Agree (two_alike first later) k c qs → IsJudged first later key bad c found → IsJudged first later key bad k found
branchwise first later key bad c k qs found a h f =
    let x : Bool = slice_index first (c 0) == key in
    let agree : Agree (two_alike first later) k c (asked_if x) = subst (λ (xs : List Question). Agree (two_alike first later) k c xs) a h in
    let e = agree_all first later x k c agree in
    f ∙ sym (ap (λ (byte : ℕ). cause_if (byte == key) bad (slice_index later (k 0))) e ∙ same_cause first later x bad k c agree)
