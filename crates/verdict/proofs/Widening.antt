-- Counts of contents, the lines with the most, and those that are open.
use Rattle.std.proofs.Common.{◌≡◌, inl, inr, ℕ, zero, suc, ◌+◌, ◌-◌, ◌≤◌, ◌<◌, ◌||◌, if◌then◌else◌, Bool, true, false, eqb, List, [], ◌∷◌, ◌++◌, append_assoc, get_or, length, take, refl, sym, ap, ◌∙◌, arith, true≢false}
use Rattle.std.proofs.lemmas.Bool.{cases_eq, cases_lt}
use Rattle.std.proofs.lemmas.List.{get_or_past, take_more}
use Rattle.std.specs.List.{AllByRecursion}
use Rattle.verdict.specs.Contents.{how_many, line_text, widest_text}
use Rattle.verdict.specs.Edges.{AreOpen}
use Rattle.verdict.specs.Numbers.{has, is_flagged}
use Rattle.verdict.specs.declared.moment_verdict.contents.LineContents.{LineContents}
use Rattle.verdict.proofs.Listed.{has_join}

how_many_more : (holds : ℕ → Bool) (n more : ℕ) → how_many holds n (more + 1) ≡ how_many holds n more + (if holds (n + more) then 1 else 0)
how_many_more holds n zero =
    let e : n + 0 ≡ n = omega arith in
    rw e (elim (holds n) as (λ b. (if b then 1 else 0) + 0 ≡ 0 + (if b then 1 else 0)) [ true ↦ refl | false ↦ refl ])
how_many_more holds n (suc more) =
    let one : suc more + 1 ≡ suc (more + 1) = omega arith in
    let sum : n + suc more ≡ n + 1 + more = omega arith in
    let rest = how_many_more holds (n + 1) more in
    rw (one, sum) (omega (arith, rest))

how_many_to : (holds : ℕ → Bool) (floor number : ℕ) → floor ≤ number →
    how_many holds (floor + 1) (number + 1 - floor) ≡ how_many holds (floor + 1) (number - floor) + (if holds (number + 1) then 1 else 0)
how_many_to holds floor number le =
    let size : number + 1 - floor ≡ (number - floor) + 1 = omega (arith, le) in
    let at : floor + 1 + (number - floor) ≡ number + 1 = omega (arith, le) in
    rw size (how_many_more holds (floor + 1) (number - floor)
    ∙ ap (λ (n : ℕ). how_many holds (floor + 1) (number - floor) + (if holds n then 1 else 0)) at)

-- one more number that has it
pub one_counted : (holds : ℕ → Bool) (floor number count new : ℕ) (has : Bool) → floor ≤ number → has ≡ holds (number + 1) → has ≡ true → new ≡ count + 1 →
    count ≡ 1 + how_many holds (floor + 1) (number - floor) → new ≡ 1 + how_many holds (floor + 1) (number + 1 - floor)
one_counted holds floor number count new has le e t n h =
    let more = how_many_to holds floor number le ∙ ap (λ (b : Bool). how_many holds (floor + 1) (number - floor) + (if b then 1 else 0)) (sym e ∙ t) in
    omega (arith, more, n, h)

-- one that doesn't
pub none_counted : (holds : ℕ → Bool) (floor number count new : ℕ) (has : Bool) → floor ≤ number → has ≡ holds (number + 1) → has ≡ false → new ≡ count →
    count ≡ 1 + how_many holds (floor + 1) (number - floor) → new ≡ 1 + how_many holds (floor + 1) (number + 1 - floor)
none_counted holds floor number count new has le e f n h =
    let more = how_many_to holds floor number le ∙ ap (λ (b : Bool). how_many holds (floor + 1) (number - floor) + (if b then 1 else 0)) (sym e ∙ f) in
    omega (arith, more, n, h)

-- not more have it than there are
pub at_most_all : (holds : ℕ → Bool) (n more : ℕ) → how_many holds n more ≤ more
at_most_all holds n zero = omega arith
at_most_all holds n (suc more) =
    let rest = at_most_all holds (n + 1) more in
    elim (holds n) as (λ b. (if b then 1 else 0) + how_many holds (n + 1) more ≤ suc more) [
      | true ↦ omega (arith, rest)
      | false ↦ omega (arith, rest)
    ]

-- at the floor
pub none_yet : (holds : ℕ → Bool) (floor number : ℕ) → number ≡ floor → 1 ≡ 1 + how_many holds (floor + 1) (number - floor)
none_yet holds floor number e = let z : number - floor ≡ 0 = omega (arith, e) in rw z refl

-- at the end
pub all_counted : (holds : ℕ → Bool) (floor number high count : ℕ) → number ≡ high →
    count ≡ 1 + how_many holds (floor + 1) (number - floor) → count ≡ 1 + how_many holds (floor + 1) (high - floor)
all_counted holds floor number high count e h = rw e at h

-- of the lines below a place, those that are flagged and have stores past their floors
pub record AreFound (low high : ℕ → ℕ) (count : ℕ) (flags : List Bool) (place : ℕ) (lines : List ℕ) : Type 0 where
  pub past : AreOpen low high count lines
  pub asked : AllByRecursion (λ l. is_flagged l flags ≡ true) lines
  pub all : (l : ℕ) → l < place → is_flagged l flags ≡ true → low l < high l → has l lines ≡ true

all_last : (P : ℕ → Type 0) (lines : List ℕ) (x : ℕ) → P x → AllByRecursion P lines → AllByRecursion P (lines ++ x ∷ [])
all_last P [] x p h = (p, tt)
all_last P (y ∷ lines) x p h = (h.0, all_last P lines x p h.1)

has_also : (l : ℕ) (lines : List ℕ) (x : ℕ) → has l lines ≡ true → has l (lines ++ x ∷ []) ≡ true
has_also l lines x t = has_join l lines (x ∷ []) ∙ ap (λ (b : Bool). b || has l (x ∷ [])) t

has_last : (l : ℕ) (lines : List ℕ) → has l (lines ++ l ∷ []) ≡ true
has_last l lines =
    let t : eqb l l ≡ true = grind arith in
    has_join l lines (l ∷ []) ∙ (rw t (elim (has l lines) as (λ b. (b || true) ≡ true) [ true ↦ refl | false ↦ refl ]))

pub found_first : (low high : ℕ → ℕ) (count : ℕ) (flags : List Bool) (lines : List ℕ) → lines ≡ [] → AreFound low high count flags 0 lines
found_first low high count flags lines e = rw e (record { past = tt; asked = tt; all = λ l less. absurd (omega (arith, less)) })

-- one more such line
pub found_one : (low high : ℕ → ℕ) (count : ℕ) (flags : List Bool) (place : ℕ) (lines new : List ℕ) → place < count → is_flagged place flags ≡ true → low place < high place →
    new ≡ lines ++ place ∷ [] → AreFound low high count flags place lines → AreFound low high count flags (place + 1) new
found_one low high count flags place lines new below t above e h = rw e (record {
  past = all_last (λ l. (l < count) × (low l < high l)) lines place (below, above) h.past;
  asked = all_last (λ l. is_flagged l flags ≡ true) lines place t h.asked;
  all = λ l less flagged higher. elim (cases_eq l place) [
    | inl same ↦ rw same (has_last place lines)
    | inr ne ↦ has_also l lines place (h.all l (omega (arith, less, ne)) flagged higher)
  ];
})

-- another line
pub found_other : (low high : ℕ → ℕ) (count : ℕ) (flags : List Bool) (place : ℕ) (lines new : List ℕ) → (is_flagged place flags ≡ true → ¬ (low place < high place)) →
    new ≡ lines → AreFound low high count flags place lines → AreFound low high count flags (place + 1) new
found_other low high count flags place lines new none e h = rw e (record {
  past = h.past;
  asked = h.asked;
  all = λ l less flagged higher. elim (cases_eq l place) [
    | inl same ↦ absurd (none (rw same at flagged) (rw same at higher))
    | inr ne ↦ h.all l (omega (arith, less, ne)) flagged higher
  ];
})

-- at the end
pub found_all : (low high : ℕ → ℕ) (count : ℕ) (flags : List Bool) (place : ℕ) (lines : List ℕ) → length flags ≤ place → AreFound low high count flags place lines →
    (l : ℕ) → is_flagged l flags ≡ true → low l < high l → has l lines ≡ true
found_all low high count flags place lines le h l t above = elim (cases_lt l place) [
  | inl less ↦ h.all l less t above
  | inr past ↦ absurd (true≢false (sym t ∙ get_or_past flags l false (omega (arith, le, past))))
]

text_more : (first : LineContents) (front : List LineContents) (one : LineContents)
    → widest_text ((first ∷ front) ++ one ∷ []) ≡ widest_text (first ∷ front) ++ (44 ∷ line_text one)
text_more first [] one = refl
text_more first (next ∷ front) one =
    ap (λ rest. line_text first ++ (44 ∷ rest)) (text_more next front one)
    ∙ sym (append_assoc (line_text first) (44 ∷ widest_text (next ∷ front)) (44 ∷ line_text one))

-- one line more of the text
pub one_more_written : (first : LineContents) (rest : List LineContents) (at : ℕ) (d : LineContents) → at < length rest
    → widest_text (first ∷ take at rest) ++ (44 ∷ line_text (get_or rest at d)) ≡ widest_text (first ∷ take (at + 1) rest)
one_more_written first rest at d inside =
    sym (text_more first (take at rest) (get_or rest at d)) ∙ ap (λ front. widest_text (first ∷ front)) (sym (take_more rest at d inside))
