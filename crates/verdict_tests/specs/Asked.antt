-- A small recovery over three lines: it asks line 0, and lines 1 and 2 only where line 0 has the key's number of stores, each as a whole.
-- An image is bad where they are asked and line 1 has at least so many stores, which number is the cause.
use Rattle.std.proofs.Common.{◌≡◌, ℕ, zero, suc, ◌+◌, ◌==◌, nat_le, Bool, true, false, List, [], ◌∷◌, take, if◌then◌else◌, Option, Some, None, refl, sym, ap, subst, ◌∙◌, arith}
use Rattle.image_check.specs.Verdicts.{whole_line}
use Rattle.verdict.specs.Branches.{Agree, IsAdaptive, IsShared, same_number}
use Rattle.verdict.specs.declared.branches.question.Question.{Question}

abbrev pub asked_if : Bool → List Question
asked_if true = whole_line 0 ∷ whole_line 1 ∷ whole_line 2 ∷ []
asked_if false = whole_line 0 ∷ []

abbrev pub cause_if : Bool → ℕ → ℕ → Option ℕ
cause_if true bad n = if nat_le bad n then Some n else None
cause_if false bad n = None

-- of the image of the cut c this is asked
abbrev pub Asks : ℕ → (ℕ → ℕ) → List Question → Type 0
Asks key c questions = questions ≡ asked_if (c 0 == key)

-- and it is bad for this cause, or passes
abbrev pub IsJudged : ℕ → ℕ → (ℕ → ℕ) → Option ℕ → Type 0
IsJudged key bad c found = found ≡ cause_if (c 0 == key) bad (c 1)

-- where a whole line is asked, being alike is to have the same number
number_same : (l n m : ℕ) → same_number (whole_line l) n m ≡ true → n ≡ m
number_same l n m h = grind (arith, h)

first_same : (x y : Bool) → take 1 (asked_if x) ≡ take 1 (asked_if y)
first_same true true = refl
first_same true false = refl
first_same false true = refl
first_same false false = refl

agree_first : (x : Bool) (n : ℕ) (k c : ℕ → ℕ) → Agree same_number k c (take (suc n) (asked_if x)) → k 0 ≡ c 0
agree_first true n k c h = number_same 0 (k 0) (c 0) h.0
agree_first false n k c h = number_same 0 (k 0) (c 0) h.0

agree_all : (x : Bool) (k c : ℕ → ℕ) → Agree same_number k c (asked_if x) → k 0 ≡ c 0
agree_all true k c h = number_same 0 (k 0) (c 0) h.0
agree_all false k c h = number_same 0 (k 0) (c 0) h.0

same_asked : (key : ℕ) (k c : ℕ → ℕ) → k 0 ≡ c 0 → asked_if (k 0 == key) ≡ asked_if (c 0 == key)
same_asked key k c e = ap (λ (n : ℕ). asked_if (n == key)) e

pub adaptive : (key : ℕ) → IsAdaptive same_number (Asks key)
adaptive key c k qs rs zero a b h =
    ap (λ (xs : List Question). take 1 xs) b ∙ first_same (k 0 == key) (c 0 == key) ∙ ap (λ (xs : List Question). take 1 xs) (sym a)
adaptive key c k qs rs (suc n) a b h =
    let e : k 0 ≡ c 0 = agree_first (c 0 == key) n k c (subst (λ (xs : List Question). Agree same_number k c (take (suc n) xs)) a h) in
    ap (λ (xs : List Question). take (suc n + 1) xs) (b ∙ same_asked key k c e ∙ sym a)

pub shared : (key : ℕ) → IsShared same_number (Asks key)
shared key c k qs a h =
    let e : k 0 ≡ c 0 = agree_all (c 0 == key) k c (subst (λ (xs : List Question). Agree same_number k c xs) a h) in
    a ∙ sym (same_asked key k c e)

same_cause : (x : Bool) (bad : ℕ) (k c : ℕ → ℕ) → Agree same_number k c (asked_if x) → cause_if x bad (k 1) ≡ cause_if x bad (c 1)
same_cause true bad k c h = ap (λ (n : ℕ). cause_if true bad n) (number_same 1 (k 1) (c 1) h.1.0)
same_cause false bad k c h = refl

pub branchwise : (key bad : ℕ) (c k : ℕ → ℕ) (qs : List Question) (found : Option ℕ) →
    Asks key c qs → Agree same_number k c qs → IsJudged key bad c found → IsJudged key bad k found
branchwise key bad c k qs found a h f =
    let agree : Agree same_number k c (asked_if (c 0 == key)) = subst (λ (xs : List Question). Agree same_number k c xs) a h in
    let e : k 0 ≡ c 0 = agree_all (c 0 == key) k c agree in
    f ∙ sym (ap (λ (n : ℕ). cause_if (n == key) bad (k 1)) e ∙ same_cause (c 0 == key) bad k c agree)
