-- What holds of numbers that are alike in all that some questions ask of a line.
use Rattle.std.proofs.Common.{◌≡◌, ℕ, zero, suc, ◌+◌, ◌-◌, ◌≤◌, ◌<◌, ◌≢◌, Bool, true, false, eqb, not, ◌&&◌, ◌||◌, cond, inl, inr, List, [], ◌∷◌, ◌++◌, refl, sym, ap, subst, ◌∙◌, arith, true≢false}
use Rattle.std.proofs.lemmas.Bool.{cases_Bool, cases_eq}
use Rattle.verdict.specs.Branches.{Agree, IsEquivalence, all_alike, has_line, is_first, none_of}
use Rattle.verdict.specs.Openings.{IsAmong}
use Rattle.verdict.specs.Queue.{with_number}
use Rattle.verdict.specs.declared.branches.question.Question.{Question}

-- two conditions
both : (a b : Bool) → a ≡ true → b ≡ true → (a && b) ≡ true
both a b e f = rw (e, f) refl

left : (a b : Bool) → (a && b) ≡ true → a ≡ true
left true b h = refl
left false b h = absurd (true≢false (sym h))

right : (a b : Bool) → (a && b) ≡ true → b ≡ true
right true b h = h
right false b h = absurd (true≢false (sym h))

-- what isn't true is false
pub not_true : (b : Bool) → ¬ (b ≡ true) → b ≡ false
not_true true n = absurd (n refl)
not_true false n = refl

-- by one question
abbrev pub one_alike : (Question → ℕ → ℕ → Bool) → ℕ → Question → ℕ → ℕ → Bool
one_alike alike l q n m = cond (eqb q.line l) (alike q n m) true

one_itself : (alike : Question → ℕ → ℕ → Bool) (l : ℕ) (q : Question) (n : ℕ) → IsEquivalence alike → one_alike alike l q n n ≡ true
one_itself alike l q n eq = elim (cases_Bool (eqb q.line l)) [ inl t ↦ rw t (eq.itself q n) | inr f ↦ rw f refl ]

one_back : (alike : Question → ℕ → ℕ → Bool) (l : ℕ) (q : Question) (n m : ℕ) → IsEquivalence alike → one_alike alike l q n m ≡ true → one_alike alike l q m n ≡ true
one_back alike l q n m eq h = elim (cases_Bool (eqb q.line l)) [ inl t ↦ rw t (eq.back q n m (rw t at h)) | inr f ↦ rw f refl ]

one_on : (alike : Question → ℕ → ℕ → Bool) (l : ℕ) (q : Question) (n m o : ℕ) → IsEquivalence alike → one_alike alike l q n m ≡ true → one_alike alike l q m o ≡ true →
    one_alike alike l q n o ≡ true
one_on alike l q n m o eq h g = elim (cases_Bool (eqb q.line l)) [ inl t ↦ rw t (eq.on q n m o (rw t at h) (rw t at g)) | inr f ↦ rw f refl ]

-- the same by all of them
pub alike_itself : (alike : Question → ℕ → ℕ → Bool) (l : ℕ) (qs : List Question) (n : ℕ) → IsEquivalence alike → all_alike alike l qs n n ≡ true
alike_itself alike l [] n eq = refl
alike_itself alike l (q ∷ qs) n eq = both (one_alike alike l q n n) (all_alike alike l qs n n) (one_itself alike l q n eq) (alike_itself alike l qs n eq)

pub alike_back : (alike : Question → ℕ → ℕ → Bool) (l : ℕ) (qs : List Question) (n m : ℕ) → IsEquivalence alike → all_alike alike l qs n m ≡ true → all_alike alike l qs m n ≡ true
alike_back alike l [] n m eq h = refl
alike_back alike l (q ∷ qs) n m eq h =
    both (one_alike alike l q m n) (all_alike alike l qs m n)
    (one_back alike l q n m eq (left (one_alike alike l q n m) (all_alike alike l qs n m) h))
    (alike_back alike l qs n m eq (right (one_alike alike l q n m) (all_alike alike l qs n m) h))

pub alike_on : (alike : Question → ℕ → ℕ → Bool) (l : ℕ) (qs : List Question) (n m o : ℕ) → IsEquivalence alike → all_alike alike l qs n m ≡ true →
    all_alike alike l qs m o ≡ true → all_alike alike l qs n o ≡ true
alike_on alike l [] n m o eq h g = refl
alike_on alike l (q ∷ qs) n m o eq h g =
    both (one_alike alike l q n o) (all_alike alike l qs n o)
    (one_on alike l q n m o eq (left (one_alike alike l q n m) (all_alike alike l qs n m) h) (left (one_alike alike l q m o) (all_alike alike l qs m o) g))
    (alike_on alike l qs n m o eq (right (one_alike alike l q n m) (all_alike alike l qs n m) h) (right (one_alike alike l q m o) (all_alike alike l qs m o) g))

-- by these and by those
pub alike_join : (alike : Question → ℕ → ℕ → Bool) (l : ℕ) (qs rs : List Question) (n m : ℕ) → all_alike alike l qs n m ≡ true → all_alike alike l rs n m ≡ true →
    all_alike alike l (qs ++ rs) n m ≡ true
alike_join alike l [] rs n m h g = g
alike_join alike l (q ∷ qs) rs n m h g =
    both (one_alike alike l q n m) (all_alike alike l (qs ++ rs) n m) (left (one_alike alike l q n m) (all_alike alike l qs n m) h)
    (alike_join alike l qs rs n m (right (one_alike alike l q n m) (all_alike alike l qs n m) h) g)

pub alike_front : (alike : Question → ℕ → ℕ → Bool) (l : ℕ) (qs rs : List Question) (n m : ℕ) → all_alike alike l (qs ++ rs) n m ≡ true → all_alike alike l qs n m ≡ true
alike_front alike l [] rs n m h = refl
alike_front alike l (q ∷ qs) rs n m h =
    both (one_alike alike l q n m) (all_alike alike l qs n m) (left (one_alike alike l q n m) (all_alike alike l (qs ++ rs) n m) h)
    (alike_front alike l qs rs n m (right (one_alike alike l q n m) (all_alike alike l (qs ++ rs) n m) h))

pub alike_rest : (alike : Question → ℕ → ℕ → Bool) (l : ℕ) (qs rs : List Question) (n m : ℕ) → all_alike alike l (qs ++ rs) n m ≡ true → all_alike alike l rs n m ≡ true
alike_rest alike l [] rs n m h = h
alike_rest alike l (q ∷ qs) rs n m h = alike_rest alike l qs rs n m (right (one_alike alike l q n m) (all_alike alike l (qs ++ rs) n m) h)

-- a question of the line itself
pub alike_one : (alike : Question → ℕ → ℕ → Bool) (q : Question) (n m : ℕ) → alike q n m ≡ true → all_alike alike q.line (q ∷ []) n m ≡ true
alike_one alike q n m h = let e : eqb q.line q.line ≡ true = grind arith in rw e (both (alike q n m) true h refl)

pub alike_last : (alike : Question → ℕ → ℕ → Bool) (seen : List Question) (q : Question) (n m : ℕ) → all_alike alike q.line (seen ++ q ∷ []) n m ≡ true → alike q n m ≡ true
alike_last alike seen q n m h =
    let e : eqb q.line q.line ≡ true = grind arith in
    let k : all_alike alike q.line (q ∷ []) n m ≡ true = alike_rest alike q.line seen (q ∷ []) n m h in
    left (alike q n m) true (rw e at k)

pub alike_more : (alike : Question → ℕ → ℕ → Bool) (seen : List Question) (q : Question) (n m : ℕ) → all_alike alike q.line seen n m ≡ true → alike q n m ≡ true →
    all_alike alike q.line (seen ++ q ∷ []) n m ≡ true
alike_more alike seen q n m h g = alike_join alike q.line seen (q ∷ []) n m h (alike_one alike q n m g)

-- cuts that agree, and the numbers of one line
pub alike_agreed : (alike : Question → ℕ → ℕ → Bool) (k c : ℕ → ℕ) (l : ℕ) (qs : List Question) → Agree alike k c qs → all_alike alike l qs (k l) (c l) ≡ true
alike_agreed alike k c l [] g = refl
alike_agreed alike k c l (q ∷ qs) g =
    both (one_alike alike l q (k l) (c l)) (all_alike alike l qs (k l) (c l))
    (elim (cases_eq q.line l) [
      | inl e ↦ let t : eqb q.line l ≡ true = grind (arith, e) in rw t (subst (λ (m : ℕ). alike q (k m) (c m) ≡ true) e g.0)
      | inr ne ↦ let f : eqb q.line l ≡ false = grind (arith, ne) in rw f refl
    ])
    (alike_agreed alike k c l qs g.1)

pub with_here : (c : ℕ → ℕ) (l n : ℕ) → with_number c l n l ≡ n
with_here c l n = let e : eqb l l ≡ true = grind arith in rw e refl

pub with_other : (c : ℕ → ℕ) (l n m : ℕ) → m ≢ l → with_number c l n m ≡ c m
with_other c l n m ne = let f : eqb m l ≡ false = grind (arith, ne) in rw f refl

-- another number for a line that is alike to the first cut's in all that is asked
pub other_agrees : (alike : Question → ℕ → ℕ → Bool) (k c : ℕ → ℕ) (l n : ℕ) (qs : List Question) → all_alike alike l qs (k l) n ≡ true → Agree alike k c qs →
    Agree alike k (with_number c l n) qs
other_agrees alike k c l n [] h g = tt
other_agrees alike k c l n (q ∷ qs) h g = (
  elim (cases_eq q.line l) [
    | inl e ↦
        let t : eqb q.line l ≡ true = grind (arith, e) in
        let own : alike q (k l) n ≡ true = left (alike q (k l) n) (all_alike alike l qs (k l) n) (rw t at h) in
        let here : with_number c l n q.line ≡ n = ap (λ (m : ℕ). with_number c l n m) e ∙ with_here c l n in
        subst (λ (m : ℕ). alike q (k q.line) m ≡ true) (sym here) (subst (λ (m : ℕ). alike q (k m) n ≡ true) (sym e) own)
    | inr ne ↦ subst (λ (m : ℕ). alike q (k q.line) m ≡ true) (sym (with_other c l n q.line ne)) g.0
  ],
  other_agrees alike k c l n qs (right (one_alike alike l q (k l) n) (all_alike alike l qs (k l) n) h) g.1,
)

-- a cut agrees with itself, and with what differs in one line alone where that is alike
pub agree_self : (alike : Question → ℕ → ℕ → Bool) (c : ℕ → ℕ) (qs : List Question) → IsEquivalence alike → Agree alike c c qs
agree_self alike c [] eq = tt
agree_self alike c (q ∷ qs) eq = (eq.itself q (c q.line), agree_self alike c qs eq)

pub agree_turned : (alike : Question → ℕ → ℕ → Bool) (k c : ℕ → ℕ) (qs : List Question) → IsEquivalence alike → Agree alike c k qs → Agree alike k c qs
agree_turned alike k c [] eq h = tt
agree_turned alike k c (q ∷ qs) eq h = (eq.back q (c q.line) (k q.line) h.0, agree_turned alike k c qs eq h.1)

pub agree_chained : (alike : Question → ℕ → ℕ → Bool) (k j c : ℕ → ℕ) (qs : List Question) → IsEquivalence alike → Agree alike k j qs → Agree alike j c qs → Agree alike k c qs
agree_chained alike k j c [] eq h g = tt
agree_chained alike k j c (q ∷ qs) eq h g = (eq.on q (k q.line) (j q.line) (c q.line) h.0 g.0, agree_chained alike k j c qs eq h.1 g.1)

pub agree_both : (alike : Question → ℕ → ℕ → Bool) (k c : ℕ → ℕ) (qs rs : List Question) → Agree alike k c qs → Agree alike k c rs → Agree alike k c (qs ++ rs)
agree_both alike k c [] rs g h = h
agree_both alike k c (q ∷ qs) rs g h = (g.0, agree_both alike k c qs rs g.1 h)

pub raised_agrees : (alike : Question → ℕ → ℕ → Bool) (c : ℕ → ℕ) (l n : ℕ) (qs : List Question) → IsEquivalence alike → all_alike alike l qs n (c l) ≡ true →
    Agree alike (with_number c l n) c qs
raised_agrees alike c l n qs eq h =
    agree_turned alike (with_number c l n) c qs eq (other_agrees alike c c l n qs (alike_back alike l qs n (c l) eq h) (agree_self alike c qs eq))

-- another number for a line that isn't asked
pub unasked_agrees : (alike : Question → ℕ → ℕ → Bool) (k c : ℕ → ℕ) (l n : ℕ) (qs : List Question) → has_line l qs ≡ false → Agree alike k c qs →
    Agree alike k (with_number c l n) qs
unasked_agrees alike k c l n [] f g = tt
unasked_agrees alike k c l n (q ∷ qs) f g = elim (cases_eq q.line l) [
  | inl e ↦ let t : eqb q.line l ≡ true = grind (arith, e) in absurd (true≢false (rw t at f))
  | inr ne ↦ let t : eqb q.line l ≡ false = grind (arith, ne) in
      (subst (λ (m : ℕ). alike q (k q.line) m ≡ true) (sym (with_other c l n q.line ne)) g.0, unasked_agrees alike k c l n qs (rw t at f) g.1)
]

-- a question among those on which cuts agree
pub agree_among : (alike : Question → ℕ → ℕ → Bool) (k c : ℕ → ℕ) (qs : List Question) (q : Question) → Agree alike k c qs → IsAmong q qs → alike q (k q.line) (c q.line) ≡ true
agree_among alike k c [] q g h = absurd h
agree_among alike k c (x ∷ qs) q g (inl e) = subst (λ (y : Question). alike y (k y.line) (c y.line) ≡ true) e g.0
agree_among alike k c (x ∷ qs) q g (inr h) = agree_among alike k c qs q g.1 h

pub among_left : (q : Question) (qs rs : List Question) → IsAmong q qs → IsAmong q (qs ++ rs)
among_left q [] rs h = absurd h
among_left q (x ∷ qs) rs (inl e) = inl e
among_left q (x ∷ qs) rs (inr h) = inr (among_left q qs rs h)

pub among_last : (q : Question) (qs : List Question) → IsAmong q (qs ++ q ∷ [])
among_last q [] = inl refl
among_last q (x ∷ qs) = inr (among_last q qs)

-- whether a line is asked
pub line_left : (l : ℕ) (qs rs : List Question) → has_line l qs ≡ true → has_line l (qs ++ rs) ≡ true
line_left l [] rs h = absurd (true≢false (sym h))
line_left l (q ∷ qs) rs h =
    (elim (eqb q.line l) as (λ e. (e || has_line l qs) ≡ true → (e || has_line l (qs ++ rs)) ≡ true) [
      | true ↦ λ k. refl
      | false ↦ λ k. line_left l qs rs k
    ]) h

pub line_last : (qs : List Question) (q : Question) → has_line q.line (qs ++ q ∷ []) ≡ true
line_last [] q = grind arith
line_last (x ∷ qs) q = (elim (eqb x.line q.line) as (λ e. (e || has_line q.line (qs ++ q ∷ [])) ≡ true) [ true ↦ refl | false ↦ line_last qs q ])

pub line_not : (l : ℕ) (qs rs : List Question) → has_line l (qs ++ rs) ≡ false → has_line l qs ≡ false
line_not l qs rs f = elim (cases_Bool (has_line l qs)) [
  | inl t ↦ absurd (true≢false (sym (line_left l qs rs t) ∙ f))
  | inr g ↦ g
]

-- none of some numbers
none_all : (holds : ℕ → Bool) (n more m : ℕ) → none_of holds n more ≡ true → n ≤ m → m < n + more → holds m ≡ false
none_all holds n zero m h le less = absurd (omega (arith, le, less))
none_all holds n (suc more) m h le less = elim (cases_eq m n) [
  | inl e ↦ subst (λ (x : ℕ). holds x ≡ false) (sym e) (not_true (holds n) (λ t. true≢false (sym (left (not (holds n)) (none_of holds (n + 1) more) h) ∙ ap not t)))
  | inr ne ↦ none_all holds (n + 1) more m (right (not (holds n)) (none_of holds (n + 1) more) h) (omega (arith, le, ne)) (omega (arith, less))
]

none_some : (holds : ℕ → Bool) (n more : ℕ) → none_of holds n more ≡ false → (m : ℕ) × (n ≤ m) × (m < n + more) × (holds m ≡ true)
none_some holds n zero f = absurd (true≢false f)
none_some holds n (suc more) f = elim (cases_Bool (holds n)) [
  | inl t ↦ (n, omega arith, omega arith, t)
  | inr g ↦
      let rest : none_of holds (n + 1) more ≡ false = rw g at f in
      let r = none_some holds (n + 1) more rest in
      let low = r.1 in
      let less = r.2 in
      (r.0, omega (arith, low), omega (arith, less), r.3)
]

-- no lower number from the floor on is alike to the first
pub first_apart : (alike : ℕ → ℕ → Bool) (low n m : ℕ) → is_first alike low n ≡ true → low ≤ m → m < n → alike m n ≡ false
first_apart alike low n m h le less = none_all (λ m. alike m n) low (n - low) m h le (omega (arith, le, less))

-- where a number isn't the first, one is
pub later_alike : (alike : ℕ → ℕ → Bool) (low n : ℕ) → is_first alike low n ≡ false → low ≤ n → (m : ℕ) × (low ≤ m) × (m < n) × (alike m n ≡ true)
later_alike alike low n f le =
    let r = none_some (λ m. alike m n) low (n - low) f in
    let less = r.2 in
    (r.0, r.1, omega (arith, le, less), r.3)

-- and where one is, it isn't the first
pub not_first : (alike : ℕ → ℕ → Bool) (low n m : ℕ) → low ≤ m → m < n → alike m n ≡ true → is_first alike low n ≡ false
not_first alike low n m le less t = not_true (is_first alike low n) (λ h. true≢false (sym t ∙ first_apart alike low n m h le less))
