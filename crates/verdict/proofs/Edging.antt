-- Edge images: the cuts of tables in which lines have all their stores, or none past their floors.
use Rattle.std.proofs.Common.{◌≡◌, inl, inr, ℕ, zero, suc, ◌+◌, ◌≤◌, ◌<◌, ◌==◌, true, false, eqb, ◌||◌, if◌then◌else◌, List, [], ◌∷◌, ◌++◌, length, map, take, get_or, slice_index, refl, sym, ap, subst, ◌∙◌, arith, true≢false}
use Rattle.std.proofs.lemmas.List.{take_more}
use Rattle.std.proofs.lemmas.Bool.{cases_Bool, cases_eq}
use Rattle.std.proofs.Math.Path.{fun_ext}
use Rattle.std.specs.Prelude.{Option, None, Some, Result, Ok, Err, is_some, IfNone, IfOk}
use Rattle.std.specs.List.{AllByRecursion}
use Rattle.verdict.specs.Branches.{IsWithin}
use Rattle.verdict.specs.Edges.{AreAllGood, AreOpen, all_full, edges}
use Rattle.verdict.specs.Numbers.{has, number_over}
use Rattle.verdict.specs.Queue.{with_number}
use Rattle.verdict.proofs.Listed.{has_more}

-- lists of lines and of cuts

all_join : {A : Type 0} (P : A → Type 0) (a b : List A) → AllByRecursion P a → AllByRecursion P b → AllByRecursion P (a ++ b)
all_join P [] b h k = k
all_join P (x ∷ a) b h k = (h.0, all_join P a b h.1 k)

all_mapped : {A B : Type 0} (f : A → B) (P : B → Type 0) (xs : List A) → AllByRecursion (λ x. P (f x)) xs → AllByRecursion P (map f xs)
all_mapped f P [] h = tt
all_mapped f P (x ∷ xs) h = (h.0, all_mapped f P xs h.1)

-- one more of the lines
pub all_more : (P : ℕ → Type 0) (lines : List ℕ) (i d : ℕ) → i < length lines → P (get_or lines i d) → AllByRecursion P (take i lines) → AllByRecursion P (take (i + 1) lines)
all_more P lines i d less p h =
    subst (λ (xs : List ℕ). AllByRecursion P xs) (sym (take_more lines i d less)) (all_join P (take i lines) (get_or lines i d ∷ []) h (p, tt))

take_past : (lines : List ℕ) (i : ℕ) → length lines ≤ i → take i lines ≡ lines
take_past [] zero h = refl
take_past [] (suc i) h = refl
take_past (x ∷ lines) zero h = absurd (omega (arith, h))
take_past (x ∷ lines) (suc i) h = ap (λ (xs : List ℕ). x ∷ xs) (take_past lines i (omega (arith, h)))

pub open_at : (low high : ℕ → ℕ) (count : ℕ) (lines : List ℕ) (i d : ℕ) → i < length lines → AreOpen low high count lines →
    (get_or lines i d < count) × (low (get_or lines i d) < high (get_or lines i d))
open_at low high count [] i d less h = absurd (omega (arith, less))
open_at low high count (x ∷ lines) zero d less h = h.0
open_at low high count (x ∷ lines) (suc i) d less h = open_at low high count lines i d (omega (arith, less)) h.1

open_has : (low high : ℕ → ℕ) (count : ℕ) (lines : List ℕ) (l : ℕ) → AreOpen low high count lines → has l lines ≡ true → low l < high l
open_has low high count [] l h t = absurd (true≢false (sym t))
open_has low high count (x ∷ lines) l h t = elim (cases_eq x l) [
  | inl e ↦ subst (λ (m : ℕ). low m < high m) e h.0.1
  | inr ne ↦ let f : eqb x l ≡ false = grind (arith, ne) in open_has low high count lines l h.1 (rw f at t)
]

pub has_at : (lines : List ℕ) (i d : ℕ) → i < length lines → has (get_or lines i d) lines ≡ true
has_at [] i d less = absurd (omega (arith, less))
has_at (x ∷ lines) zero d less = let t : eqb x x ≡ true = grind arith in rw t refl
has_at (x ∷ lines) (suc i) d less = rw (has_at lines i d (omega (arith, less))) (elim (eqb x (get_or lines i d)) as (λ b. (b || true) ≡ true) [ true ↦ refl | false ↦ refl ])

edges_good : {Cause : Type 0} (judged : (ℕ → ℕ) → Option Cause → Type 0) (low high : ℕ → ℕ) (lines : List ℕ) → judged low None →
    AllByRecursion (λ l. judged (with_number low l (high l)) None) lines →
    AllByRecursion (λ l. judged (with_number (all_full low high lines) l (low l)) None) lines → AreAllGood judged (edges low high lines)
edges_good judged low high lines at_floors alone without = (
  at_floors,
  all_join (λ cut. judged cut None) (map (λ l. with_number low l (high l)) lines) (map (λ l. with_number (all_full low high lines) l (low l)) lines)
      (all_mapped (λ l. with_number low l (high l)) (λ cut. judged cut None) lines alone)
      (all_mapped (λ l. with_number (all_full low high lines) l (low l)) (λ cut. judged cut None) lines without),
)

-- cuts within the bounds

within_low : (low high : ℕ → ℕ) → ((l : ℕ) → low l ≤ high l) → IsWithin low high low
within_low low high ordered = record { least = λ l. omega arith; most = ordered }

within_with : (low high k : ℕ → ℕ) (line n : ℕ) → low line ≤ n → n ≤ high line → IsWithin low high k → IsWithin low high (with_number k line n)
within_with low high k line n least most h = record {
  least = λ l. elim (cases_eq l line) [
    | inl e ↦ let t : eqb l line ≡ true = grind (arith, e) in rw t (subst (λ (m : ℕ). low m ≤ n) (sym e) least)
    | inr ne ↦ let f : eqb l line ≡ false = grind (arith, ne) in rw f (h.least l)
  ];
  most = λ l. elim (cases_eq l line) [
    | inl e ↦ let t : eqb l line ≡ true = grind (arith, e) in rw t (subst (λ (m : ℕ). n ≤ high m) (sym e) most)
    | inr ne ↦ let f : eqb l line ≡ false = grind (arith, ne) in rw f (h.most l)
  ];
}

pub within_alone : (low high : ℕ → ℕ) (line : ℕ) → ((l : ℕ) → low l ≤ high l) → IsWithin low high (with_number low line (high line))
within_alone low high line ordered = within_with low high low line (high line) (ordered line) (omega arith) (within_low low high ordered)

within_full : (low high : ℕ → ℕ) (lines : List ℕ) → ((l : ℕ) → low l ≤ high l) → IsWithin low high (all_full low high lines)
within_full low high lines ordered = record {
  least = λ l. elim (has l lines) as (λ b. low l ≤ (if b then high l else low l)) [ true ↦ ordered l | false ↦ omega arith ];
  most = λ l. elim (has l lines) as (λ b. (if b then high l else low l) ≤ high l) [ true ↦ omega arith | false ↦ ordered l ];
}

pub within_without : (low high : ℕ → ℕ) (lines : List ℕ) (line : ℕ) → ((l : ℕ) → low l ≤ high l) → IsWithin low high (with_number (all_full low high lines) line (low line))
within_without low high lines line ordered =
    within_with low high (all_full low high lines) line (low line) (omega arith) (ordered line) (within_full low high lines ordered)

-- the cuts of tables

-- a number put for a line
abbrev pub IsPut : List ℕ → List ℕ → ℕ → ℕ → Type 0
IsPut old new line n = (l : ℕ) → slice_index new l ≡ (if l == line then n else slice_index old l)

abbrev pub IsNone : List ℕ → Type 0
IsNone numbers = (l : ℕ) → slice_index numbers l ≡ 0

abbrev pub IsFull : (ℕ → ℕ) → List ℕ → List ℕ → Type 0
IsFull high lines numbers = (l : ℕ) → slice_index numbers l ≡ (if has l lines then high l else 0)

pub over_alone : (low high : ℕ → ℕ) (old new : List ℕ) (line n : ℕ) → n ≡ high line → low line < high line → IsNone old → IsPut old new line n →
    number_over low new ≡ with_number low line (high line)
over_alone low high old new line n same less none put = fun_ext (λ l. elim (cases_eq l line) [
  | inl e ↦
      let t : eqb l line ≡ true = grind (arith, e) in
      let k : slice_index new l ≡ high line = (rw t at (put l)) ∙ same in
      let f : eqb (high line) 0 ≡ false = grind (arith, less) in
      rw t (let g : number_over low new l ≡ high line = ap (λ (m : ℕ). if m == 0 then low l else m) k ∙ (rw f refl) in g)
  | inr ne ↦
      let f : eqb l line ≡ false = grind (arith, ne) in
      let k : slice_index new l ≡ 0 = (rw f at (put l)) ∙ none l in
      rw f (let g : number_over low new l ≡ low l = ap (λ (m : ℕ). if m == 0 then low l else m) k in g)
])

over_full : (low high : ℕ → ℕ) (count : ℕ) (lines numbers : List ℕ) (l : ℕ) → AreOpen low high count lines → IsFull high lines numbers →
    number_over low numbers l ≡ all_full low high lines l
over_full low high count lines numbers l opened full = elim (cases_Bool (has l lines)) [
  | inl t ↦
      let k : slice_index numbers l ≡ high l = rw t at (full l) in
      let less : low l < high l = open_has low high count lines l opened t in
      let f : eqb (high l) 0 ≡ false = grind (arith, less) in
      rw t (let g : number_over low numbers l ≡ high l = ap (λ (m : ℕ). if m == 0 then low l else m) k ∙ (rw f refl) in g)
  | inr t ↦
      let k : slice_index numbers l ≡ 0 = rw t at (full l) in
      rw t (let g : number_over low numbers l ≡ low l = ap (λ (m : ℕ). if m == 0 then low l else m) k in g)
]

pub over_without : (low high : ℕ → ℕ) (count : ℕ) (lines old new : List ℕ) (line : ℕ) → AreOpen low high count lines → IsFull high lines old → IsPut old new line 0 →
    number_over low new ≡ with_number (all_full low high lines) line (low line)
over_without low high count lines old new line opened full put = fun_ext (λ l. elim (cases_eq l line) [
  | inl e ↦
      let t : eqb l line ≡ true = grind (arith, e) in
      let k : slice_index new l ≡ 0 = rw t at (put l) in
      rw t (let g : number_over low new l ≡ low line = ap (λ (m : ℕ). if m == 0 then low l else m) k ∙ ap low e in g)
  | inr ne ↦
      let f : eqb l line ≡ false = grind (arith, ne) in
      let k : slice_index new l ≡ slice_index old l = rw f at (put l) in
      rw f (let g : number_over low new l ≡ all_full low high lines l =
      ap (λ (m : ℕ). if m == 0 then low l else m) k ∙ over_full low high count lines old l opened full in g)
])

-- a line raised alone, and put back
pub none_again : (old mid new : List ℕ) (line n : ℕ) → IsNone old → IsPut old mid line n → IsPut mid new line 0 → IsNone new
none_again old mid new line n none raised back l = elim (cases_eq l line) [
  | inl e ↦ let t : eqb l line ≡ true = grind (arith, e) in rw t at (back l)
  | inr ne ↦ let f : eqb l line ≡ false = grind (arith, ne) in (rw f at (back l)) ∙ (rw f at (raised l)) ∙ none l
]

-- a line lowered alone, and put back
pub full_again : (high : ℕ → ℕ) (lines old mid new : List ℕ) (line n : ℕ) → has line lines ≡ true → n ≡ high line → IsFull high lines old →
    IsPut old mid line 0 → IsPut mid new line n → IsFull high lines new
full_again high lines old mid new line n there same full lowered back l = elim (cases_eq l line) [
  | inl e ↦
      let t : eqb l line ≡ true = grind (arith, e) in
      let h : has l lines ≡ true = subst (λ (m : ℕ). has m lines ≡ true) (sym e) there in
      rw h ((rw t at (back l)) ∙ same ∙ ap high (sym e))
  | inr ne ↦ let f : eqb l line ≡ false = grind (arith, ne) in (rw f at (back l)) ∙ (rw f at (lowered l)) ∙ full l
]

-- one more of the lines raised
pub full_more : (high : ℕ → ℕ) (lines old new : List ℕ) (i d n : ℕ) → i < length lines → n ≡ high (get_or lines i d) → IsFull high (take i lines) old →
    IsPut old new (get_or lines i d) n → IsFull high (take (i + 1) lines) new
full_more high lines old new i d n less same full put l = rw (has_more l lines i d less) (elim (cases_eq l (get_or lines i d)) [
  | inl e ↦
      let t : eqb l (get_or lines i d) ≡ true = grind (arith, e) in
      let s : eqb (get_or lines i d) l ≡ true = grind (arith, e) in
      let b : (has l (take i lines) || true) ≡ true = (elim (has l (take i lines)) as (λ b. (b || true) ≡ true) [ true ↦ refl | false ↦ refl ]) in
      rw (s, b) ((rw t at (put l)) ∙ same ∙ ap high (sym e))
  | inr ne ↦
      let f : eqb l (get_or lines i d) ≡ false = grind (arith, ne) in
      let s : eqb (get_or lines i d) l ≡ false = grind (arith, ne) in
      let b : (has l (take i lines) || false) ≡ has l (take i lines) = (elim (has l (take i lines)) as (λ b. (b || false) ≡ b) [ true ↦ refl | false ↦ refl ]) in
      rw (s, b) ((rw f at (put l)) ∙ full l)
])

pub full_all : (high : ℕ → ℕ) (lines numbers : List ℕ) (i : ℕ) → length lines ≤ i → IsFull high (take i lines) numbers → IsFull high lines numbers
full_all high lines numbers i past h = subst (λ (xs : List ℕ). IsFull high xs numbers) (take_past lines i past) h

-- what recovery finds of a cut

pub passes : {Cause : Type 0} (judged : (ℕ → ℕ) → Option Cause → Type 0) (c k : ℕ → ℕ) (found : Option Cause) → false ≡ is_some found → c ≡ k → judged c found → judged k None
passes judged c k None e same h = subst (λ (cut : ℕ → ℕ). judged cut None) same h
passes judged c k (Some cause) e same h = absurd (true≢false (sym e))

pub if_none : {Cause : Type 0} (found : Option Cause) (claim : Type 0) → false ≡ is_some found → IfNone found claim → claim
if_none None claim e h = h
if_none (Some cause) claim e h = absurd (true≢false (sym e))

pub edges_found : {Cause E : Type 0} (judged : (ℕ → ℕ) → Option Cause → Type 0) (low high : ℕ → ℕ) (lines : List ℕ) (result : Result (Option Cause) E) → judged low None →
    AllByRecursion (λ l. judged (with_number low l (high l)) None) lines →
    IfOk result (λ found. IfNone found (AllByRecursion (λ l. judged (with_number (all_full low high lines) l (low l)) None) lines)) →
    IfOk result (λ found. IfNone found (AreAllGood judged (edges low high lines)))
edges_found judged low high lines (Ok None) at_floors alone without = edges_good judged low high lines at_floors alone without
edges_found judged low high lines (Ok (Some cause)) at_floors alone without = tt
edges_found judged low high lines (Err e) at_floors alone without = tt
