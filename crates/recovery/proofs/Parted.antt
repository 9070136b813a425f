-- The parts of a box by the bytes that are asked of one of its images.
use Rattle.std.proofs.Common.{◌≡◌, ◌⊎◌, ℕ, zero, suc, ◌+◌, ◌<◌, ◌==◌, ◌&&◌, ◌||◌, Bool, true, false, not, List, [], ◌∷◌, Some, None, length, slice_get, refl, sym, ap, subst, ◌∙◌, inl, inr, arith, true≢false}
use Rattle.std.specs.Prelude.{filter, slice_set}
use Rattle.std.specs.List.{AllByRecursion, Contains}
use Rattle.std.proofs.lemmas.Bool.{cases_Bool}
use Rattle.std.proofs.Math.ListN.{length-set}
use Rattle.line_memory.specs.Lines.{line_at}
use Rattle.recovery.proofs.Boxed.{first_of, later_of}
use Rattle.recovery.proofs.Imaged.{same_here}
use Rattle.recovery.specs.Asking.{AgreeOn}
use Rattle.recovery.specs.Boxes.{AreApart, IsIn, IsInOne, alike, contents_of, others_of, part_of, unlike}
use Rattle.recovery.specs.Images.{same_at}
use Rattle.verdict.specs.Bytes.{has_byte}
use Rattle.verdict.specs.declared.branches.question.Question.{Question}

-- what passes a test
passes_here : (test : List ℕ → Bool) (xs : List (List ℕ)) (x : List ℕ) → Contains xs x → test x ≡ true → Contains (filter test xs) x
passes_here test [] x (i, h, e) t = absurd (omega (arith, h))
passes_here test (y ∷ xs) x (zero, h, e) t =
    let own : test y ≡ true = ap test e ∙ t in
    rw own (subst (λ (z : List ℕ). Contains (y ∷ filter test xs) z) e (first_of y (filter test xs)))
passes_here test (y ∷ xs) x (suc i, h, e) t =
    let later = passes_here test xs x (i, omega (arith, h), e) t in
    elim (cases_Bool (test y)) [
      | inl own ↦ rw own (later_of y x (filter test xs) later)
      | inr out ↦ rw out later
    ]

passed_first : (test : List ℕ → Bool) (y : List ℕ) (xs : List (List ℕ)) (x : List ℕ) → test y ≡ true
    → (Contains (filter test xs) x → Contains xs x × (test x ≡ true)) → Contains (y ∷ filter test xs) x → Contains (y ∷ xs) x × (test x ≡ true)
passed_first test y xs x own more (zero, h, e) =
    (subst (λ (z : List ℕ). Contains (y ∷ xs) z) e (first_of y xs), subst (λ (z : List ℕ). test z ≡ true) e own)
passed_first test y xs x own more (suc i, h, e) = let r = more (i, omega (arith, h), e) in (later_of y x xs r.0, r.1)

passed : (test : List ℕ → Bool) (xs : List (List ℕ)) (x : List ℕ) → Contains (filter test xs) x → Contains xs x × (test x ≡ true)
passed test [] x (i, h, e) = absurd (omega (arith, h))
passed test (y ∷ xs) x c = elim (cases_Bool (test y)) [
  | inl own ↦ passed_first test y xs x own (λ d. passed test xs x d) (rw own at c)
  | inr out ↦ let r = passed test xs x (rw out at c) in (later_of y x xs r.0, r.1)
]

-- a line's contents that pass a test
filter_in : (test : List ℕ → Bool) (l : ℕ) (box : List (List (List ℕ))) (image : List (List ℕ)) → IsIn box image → test (line_at image l) ≡ true
    → IsIn (slice_set box l (filter test (contents_of box l))) image
filter_in test l [] image h t = h
filter_in test zero (contents ∷ box) [] h t = absurd h
filter_in test (suc l) (contents ∷ box) [] h t = absurd h
filter_in test zero (contents ∷ box) (line ∷ image) h t = (passes_here test contents line h.0 t, h.1)
filter_in test (suc l) (contents ∷ box) (line ∷ image) h t = (h.0, filter_in test l box image h.1 t)

filter_out : (test : List ℕ → Bool) (l : ℕ) (box : List (List (List ℕ))) (image : List (List ℕ))
    → IsIn (slice_set box l (filter test (contents_of box l))) image → IsIn box image × (l < length box → test (line_at image l) ≡ true)
filter_out test l [] image h = (h, λ there. absurd (omega (arith, there)))
filter_out test zero (contents ∷ box) [] h = absurd h
filter_out test (suc l) (contents ∷ box) [] h = absurd h
filter_out test zero (contents ∷ box) (line ∷ image) h = let r = passed test contents line h.0 in ((r.0, h.1), λ there. r.1)
filter_out test (suc l) (contents ∷ box) (line ∷ image) h =
    let r = filter_out test l box image h.1 in ((h.0, r.0), λ there. r.1 (omega (arith, there)))

-- whether an image has the bytes of a question as another one
into_alike : (box : List (List (List ℕ))) (image other : List (List ℕ)) (q : Question) → IsIn box other → same_at q.bytes 0 (line_at image q.line) (line_at other q.line) ≡ true
    → IsIn (alike box image q) other
into_alike box image other q h e = filter_in (λ line. same_at q.bytes 0 (line_at image q.line) line) q.line box other h e

into_unlike : (box : List (List (List ℕ))) (image other : List (List ℕ)) (q : Question) → IsIn box other → same_at q.bytes 0 (line_at image q.line) (line_at other q.line) ≡ false
    → IsIn (unlike box image q) other
into_unlike box image other q h e =
    filter_in (λ line. not (same_at q.bytes 0 (line_at image q.line) line)) q.line box other h (ap (λ (b : Bool). not b) e)

out_of_alike : (box : List (List (List ℕ))) (image other : List (List ℕ)) (q : Question) → q.line < length box → IsIn (alike box image q) other
    → IsIn box other × (same_at q.bytes 0 (line_at image q.line) (line_at other q.line) ≡ true)
out_of_alike box image other q there h =
    let r = filter_out (λ line. same_at q.bytes 0 (line_at image q.line) line) q.line box other h in (r.0, r.1 there)

not_true : (b : Bool) → not b ≡ true → b ≡ false
not_true true e = absurd (true≢false (sym e))
not_true false e = refl

out_of_unlike : (box : List (List (List ℕ))) (image other : List (List ℕ)) (q : Question) → q.line < length box → IsIn (unlike box image q) other
    → IsIn box other × (same_at q.bytes 0 (line_at image q.line) (line_at other q.line) ≡ false)
out_of_unlike box image other q there h =
    let r = filter_out (λ line. not (same_at q.bytes 0 (line_at image q.line) line)) q.line box other h in
    (r.0, not_true (same_at q.bytes 0 (line_at image q.line) (line_at other q.line)) (r.1 there))

-- lines that are the same at each place that is asked
both_true : (a b : Bool) → a ≡ true → b ≡ true → (a && b) ≡ true
both_true a b e f = rw (e, f) refl

either_true : (a b : Bool) → (a ≡ true → b ≡ true) → (not a || b) ≡ true
either_true true b h = h refl
either_true false b h = refl

none_some : (a : Bool) (x : ℕ) → (a ≡ true → Some x ≡ None) → not a ≡ true
none_some true x h = absurd (let e = h refl in cc)
none_some false x h = refl

some_none : (a : Bool) (x : ℕ) → (a ≡ true → None ≡ Some x) → not a ≡ true
some_none true x h = absurd (let e = h refl in cc)
some_none false x h = refl

same_number : (x y : ℕ) → Some y ≡ Some x → (x == y) ≡ true
same_number x y e = let same : y ≡ x = cc in rw same (grind arith)

first_same : (bytes i : ℕ) (xs ys : List ℕ) → ((j : ℕ) → has_byte bytes (i + j) ≡ true → slice_get ys j ≡ slice_get xs j) → has_byte bytes i ≡ true
    → slice_get ys 0 ≡ slice_get xs 0
first_same bytes i xs ys same has = let at : i + 0 ≡ i = omega arith in same 0 (subst (λ (n : ℕ). has_byte bytes n ≡ true) (sym at) has)

same_from : (bytes i : ℕ) (xs ys : List ℕ) → ((j : ℕ) → has_byte bytes (i + j) ≡ true → slice_get ys j ≡ slice_get xs j) → same_at bytes i xs ys ≡ true
same_from bytes i [] [] same = refl
same_from bytes i [] (y ∷ ys) same =
    both_true (not (has_byte bytes i)) (same_at bytes (i + 1) [] ys)
    (none_some (has_byte bytes i) y (λ has. first_same bytes i [] (y ∷ ys) same has))
    (same_from bytes (i + 1) [] ys (λ j has. let at : i + 1 + j ≡ i + suc j = omega arith in same (suc j) (subst (λ (n : ℕ). has_byte bytes n ≡ true) at has)))
same_from bytes i (x ∷ xs) [] same =
    both_true (not (has_byte bytes i)) (same_at bytes (i + 1) xs [])
    (some_none (has_byte bytes i) x (λ has. first_same bytes i (x ∷ xs) [] same has))
    (same_from bytes (i + 1) xs [] (λ j has. let at : i + 1 + j ≡ i + suc j = omega arith in same (suc j) (subst (λ (n : ℕ). has_byte bytes n ≡ true) at has)))
same_from bytes i (x ∷ xs) (y ∷ ys) same =
    both_true (not (has_byte bytes i) || (x == y)) (same_at bytes (i + 1) xs ys)
    (either_true (has_byte bytes i) (x == y) (λ has. same_number x y (first_same bytes i (x ∷ xs) (y ∷ ys) same has)))
    (same_from bytes (i + 1) xs ys (λ j has. let at : i + 1 + j ≡ i + suc j = omega arith in same (suc j) (subst (λ (n : ℕ). has_byte bytes n ≡ true) at has)))

agrees : (image other : List (List ℕ)) (q : Question) → same_at q.bytes 0 (line_at image q.line) (line_at other q.line) ≡ true
    → (i : ℕ) → has_byte q.bytes i ≡ true → slice_get (line_at other q.line) i ≡ slice_get (line_at image q.line) i
agrees image other q e i has =
    let at : 0 + i ≡ i = omega arith in
    sym (same_here q.bytes 0 (line_at image q.line) (line_at other q.line) i e (subst (λ (n : ℕ). has_byte q.bytes n ≡ true) (sym at) has))

agreed : (image other : List (List ℕ)) (q : Question)
    → ((i : ℕ) → has_byte q.bytes i ≡ true → slice_get (line_at other q.line) i ≡ slice_get (line_at image q.line) i)
    → same_at q.bytes 0 (line_at image q.line) (line_at other q.line) ≡ true
agreed image other q same =
    same_from q.bytes 0 (line_at image q.line) (line_at other q.line)
    (λ j has. let at : 0 + j ≡ j = omega arith in same j (subst (λ (n : ℕ). has_byte q.bytes n ≡ true) at has))

-- each image of a box is in its part or in one of the others
pub parts_cover : (box : List (List (List ℕ))) (image other : List (List ℕ)) (questions : List Question) → IsIn box other
    → IsIn (part_of box image questions) other ⊎ IsInOne (others_of box image questions) other
parts_cover box image other [] h = inl h
parts_cover box image other (q ∷ questions) h = elim (cases_Bool (same_at q.bytes 0 (line_at image q.line) (line_at other q.line))) [
  | inl e ↦ elim (parts_cover (alike box image q) image other questions (into_alike box image other q h e)) [ inl a ↦ inl a | inr b ↦ inr (inr b) ]
  | inr e ↦ inr (inl (into_unlike box image other q h e))
]

below_set : (questions : List Question) (box : List (List (List ℕ))) (l : ℕ) (contents : List (List ℕ))
    → AllByRecursion (λ q. q.line < length box) questions → AllByRecursion (λ q. q.line < length (slice_set box l contents)) questions
below_set [] box l contents h = tt
below_set (q ∷ questions) box l contents h =
    let same : length (slice_set box l contents) ≡ length box = length-set box l contents in
    (omega (arith, h.0, same), below_set questions box l contents h.1)

below_alike : (questions : List Question) (box : List (List (List ℕ))) (image : List (List ℕ)) (q : Question)
    → AllByRecursion (λ r. r.line < length box) questions → AllByRecursion (λ r. r.line < length (alike box image q)) questions
below_alike questions box image q h =
    below_set questions box q.line (filter (λ line. same_at q.bytes 0 (line_at image q.line) line) (contents_of box q.line)) h

-- the images of the part are those of the box that have the bytes asked,
pub part_agrees : (box : List (List (List ℕ))) (image other : List (List ℕ)) (questions : List Question) → AllByRecursion (λ q. q.line < length box) questions
    → IsIn (part_of box image questions) other → IsIn box other × AgreeOn image other questions
part_agrees box image other [] below h = (h, tt)
part_agrees box image other (q ∷ questions) below h =
    let r = part_agrees (alike box image q) image other questions (below_alike questions box image q below.1) h in
    let s = out_of_alike box image other q below.0 r.0 in
    (s.0, (agrees image other q s.1, r.1))

pub agree_part : (box : List (List (List ℕ))) (image other : List (List ℕ)) (questions : List Question) → IsIn box other → AgreeOn image other questions
    → IsIn (part_of box image questions) other
agree_part box image other [] h agree = h
agree_part box image other (q ∷ questions) h agree =
    agree_part (alike box image q) image other questions (into_alike box image other q h (agreed image other q agree.0)) agree.1

-- and those of the others are the rest,
pub others_differ : (box : List (List (List ℕ))) (image other : List (List ℕ)) (questions : List Question) → AllByRecursion (λ q. q.line < length box) questions
    → IsInOne (others_of box image questions) other → IsIn box other × (¬ AgreeOn image other questions)
others_differ box image other [] below h = absurd h
others_differ box image other (q ∷ questions) below (inl h) =
    let s = out_of_unlike box image other q below.0 h in
    (s.0, λ agree. true≢false (sym (agreed image other q agree.0) ∙ s.1))
others_differ box image other (q ∷ questions) below (inr h) =
    let r = others_differ (alike box image q) image other questions (below_alike questions box image q below.1) h in
    let s = out_of_alike box image other q below.0 r.0 in
    (s.0, λ agree. r.1 agree.1)

-- of which no two share an image
others_apart : (box : List (List (List ℕ))) (image : List (List ℕ)) (questions : List Question) → AllByRecursion (λ q. q.line < length box) questions
    → AreApart (others_of box image questions)
others_apart box image [] below = tt
others_apart box image (q ∷ questions) below = (
  λ other here later.
      let s = out_of_unlike box image other q below.0 here in
      let r = others_differ (alike box image q) image other questions (below_alike questions box image q below.1) later in
      let t = out_of_alike box image other q below.0 r.0 in
      true≢false (sym t.1 ∙ s.1),
  others_apart (alike box image q) image questions (below_alike questions box image q below.1),
)

pub parts_apart : (box : List (List (List ℕ))) (image : List (List ℕ)) (questions : List Question) → AllByRecursion (λ q. q.line < length box) questions
    → AreApart (part_of box image questions ∷ others_of box image questions)
parts_apart box image questions below = (
  λ other here later. (others_differ box image other questions below later).1 (part_agrees box image other questions below here).1,
  others_apart box image questions below,
)
