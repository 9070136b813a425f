-- Cuts by what names them.
use Rattle.std.proofs.Common.{◌≡◌, ◌≢◌, ℕ, zero, suc, ◌+◌, ◌-◌, ◌*◌, ◌<◌, ◌≤◌, ◌==◌, true, false, List, [], ◌∷◌, length, get_or, set, drop, inl, inr, refl, ap, ◌∙◌, sym, arith}
use Rattle.std.specs.Prelude.{All, Contains, map, if◌then◌else◌}
use Rattle.std.specs.List.Sorted.{IsStrictlyIncreasing}
use Rattle.std.proofs.lemmas.Bool.{cases_Bool, cases_lt}
use Rattle.std.proofs.lemmas.Bool.Decides.{nat_tests}
use Rattle.std.proofs.lemmas.Grind.{common_steps}
use Rattle.std.proofs.lemmas.List.{get_or-map, get_or_default, length-map}
use Rattle.std.proofs.Math.Nat.{mul-le-mul_left, le-mul_of_pos_right}
use Rattle.std.proofs.Math.Seq.{drop-cons}
use Rattle.crash_image.proofs.Counting.{zero_lt_product}
use Rattle.crash_image.proofs.Lined.{lines_from}
use Rattle.crash_image.specs.Bounds.{Allows, Fits, numbers_of, product_of}
use Rattle.crash_image.specs.Named.{number_from, number_or, renumbered}
use Rattle.crash_image.specs.Places.{IsPlace}
use Rattle.crash_image.specs.declared.bounds.LineBounds.{LineBounds}

-- no entry but that at `at` is of line l
abbrev pub IsApart : List (ℕ × ℕ) → ℕ → ℕ → Type 0
IsApart entries l at = (i : ℕ) (d : ℕ × ℕ) → i < length entries → i ≢ at → (get_or entries i d).0 ≢ l

-- no entry is of line l
abbrev pub IsAbsent : List (ℕ × ℕ) → ℕ → Type 0
IsAbsent entries l = (i : ℕ) (d : ℕ × ℕ) → i < length entries → (get_or entries i d).0 ≢ l

pub absent_past : (entries : List (ℕ × ℕ)) (l at : ℕ) → IsPlace entries l at → length entries ≤ at → IsAbsent entries l
absent_past entries l at p last i d h = omega (arith, p.below i d (omega (arith, h, last)))

pub place_apart : (entries : List (ℕ × ℕ)) (l at : ℕ) (d : ℕ × ℕ) → IsStrictlyIncreasing (map (λ entry. entry.0) entries) →
    IsPlace entries l at → at < length entries → IsApart entries l at
place_apart entries l at d up p there i e h other = elim (cases_lt i at) [
  | inl low ↦ omega (arith, p.below i e low)
  | inr high ↦
      let first : l ≤ (get_or entries at e).0 = p.above at e (omega arith) there in
      let order : (get_or entries at e).0 + (i - at) ≤ (get_or entries i e).0 = lines_from entries at i e up high h in
      omega (arith, first, order, other)
]

pub absent_other : (entries : List (ℕ × ℕ)) (l at : ℕ) (d : ℕ × ℕ) → IsStrictlyIncreasing (map (λ entry. entry.0) entries) →
    IsPlace entries l at → at < length entries → (get_or entries at d).0 ≢ l → IsAbsent entries l
absent_other entries l at d up p there apart i e h = elim (cases_Bool (i == at)) [
  | inl same ↦
      let is : i ≡ at = grind (arith, nat_tests, same) in
      let one : (get_or entries at d).0 ≡ (get_or entries at e).0 = ap (λ (x : ℕ × ℕ). x.0) (get_or_default entries at d e there) in
      rw is (omega (arith, one, apart))
  | inr other ↦
      let no : i ≢ at = grind (arith, nat_tests, other) in
      place_apart entries l at d up p there i e h no
]

-- where no entry is of the line, the line isn't given its number
pub absent_given : (entries : List (ℕ × ℕ)) (x : ℕ × ℕ) → IsAbsent entries x.0 → entries ≡ renumbered (x ∷ []) entries
absent_given [] x none = refl
absent_given (e ∷ entries) x none =
    let other : (x.0 == e.0) ≡ false = grind (arith, nat_tests, none 0 e (omega arith)) in
    rw other (ap (λ (es : List (ℕ × ℕ)). e ∷ es) (absent_given entries x (λ i d h. none (suc i) d (omega (arith, h)))))

pub absent_there : (entries : List (ℕ × ℕ)) (l : ℕ) → IsAbsent entries l → ¬ Contains (map (λ entry. entry.0) entries) l
absent_there entries l none c =
    let inside : c.0 < length entries = omega (arith, c.1, length-map entries (λ (e : ℕ × ℕ). e.0)) in
    let same : get_or (map (λ (e : ℕ × ℕ). e.0) entries) c.0 l ≡ (get_or entries c.0 (l, l)).0 = get_or-map (λ e. e.0) entries c.0 (l, l) l inside in
    none c.0 (l, l) inside (sym same ∙ c.2)

pub there_at : (entries : List (ℕ × ℕ)) (l at : ℕ) (d : ℕ × ℕ) → at < length entries → (get_or entries at d).0 ≡ l →
    Contains (map (λ entry. entry.0) entries) l
there_at entries l at d h e =
    (at, omega (arith, h, length-map entries (λ (x : ℕ × ℕ). x.0)), get_or-map (λ x. x.0) entries at d l h ∙ e)

pub set_given : (entries : List (ℕ × ℕ)) (x : ℕ × ℕ) (at : ℕ) (d : ℕ × ℕ) → at < length entries → (get_or entries at d).0 ≡ x.0 →
    IsApart entries x.0 at → set entries at x ≡ renumbered (x ∷ []) entries
set_given [] x at d h e apart = absurd (omega (arith, h))
set_given (y ∷ entries) x zero d h e apart =
    let same : (x.0 == y.0) ≡ true = grind (arith, nat_tests, e) in
    let rest : entries ≡ renumbered (x ∷ []) entries =
    absent_given entries x (λ i f b. apart (suc i) f (omega (arith, b)) (omega arith)) in
    rw (same, e) (ap (λ (es : List (ℕ × ℕ)). x ∷ es) rest)
set_given (y ∷ entries) x (suc at) d h e apart =
    let other : (x.0 == y.0) ≡ false = grind (arith, nat_tests, apart 0 y (omega arith) (omega arith)) in
    rw other (ap (λ (es : List (ℕ × ℕ)). y ∷ es)
    (set_given entries x at d (omega (arith, h)) e (λ i f b n. apart (suc i) f (omega (arith, b)) (omega (arith, n)))))

-- one line after the other
pub renumbered_none : (entries : List (ℕ × ℕ)) → renumbered [] entries ≡ entries
renumbered_none [] = refl
renumbered_none (e ∷ entries) = ap (λ (es : List (ℕ × ℕ)). e ∷ es) (renumbered_none entries)

pub renumbered_lines : (lines entries : List (ℕ × ℕ)) → map (λ entry. entry.0) (renumbered lines entries) ≡ map (λ entry. entry.0) entries
renumbered_lines lines [] = refl
renumbered_lines lines (e ∷ entries) = ap (λ (ls : List ℕ). e.0 ∷ ls) (renumbered_lines lines entries)

pub renumbered_more : (x : ℕ × ℕ) (lines entries : List (ℕ × ℕ)) → renumbered (x ∷ []) (renumbered lines entries) ≡ renumbered (x ∷ lines) entries
renumbered_more x lines [] = refl
renumbered_more x lines (e ∷ entries) =
    ap (λ (es : List (ℕ × ℕ)). (e.0, if x.0 == e.0 then x.1 else number_or lines e.0 e.1) ∷ es) (renumbered_more x lines entries)

-- the lines from place `at` on have given their numbers
pub record AreGiven (lines entries : List (ℕ × ℕ)) (at : ℕ) (given : List (ℕ × ℕ)) : Type 0 where
  pub numbers : given ≡ renumbered (drop at lines) entries
  pub there : (i : ℕ) (d : ℕ × ℕ) → at ≤ i → i < length lines → Contains (map (λ entry. entry.0) entries) (get_or lines i d).0

pub none_given : (lines entries : List (ℕ × ℕ)) → AreGiven lines entries (length lines) entries
none_given lines entries =
    let none : drop (length lines) lines ≡ [] = grind (arith, common_steps) in
    record {
      numbers = rw none (sym (renumbered_none entries));
      there = λ i d a b. absurd (omega (arith, a, b));
    }

pub one_given : (lines entries : List (ℕ × ℕ)) (at : ℕ) (d : ℕ × ℕ) (given next : List (ℕ × ℕ)) → 0 < at → at ≤ length lines →
    AreGiven lines entries at given → next ≡ renumbered (get_or lines (at - 1) d ∷ []) given →
    Contains (map (λ entry. entry.0) given) (get_or lines (at - 1) d).0 →
    AreGiven lines entries (at - 1) next
one_given lines entries at d given next some within s e c =
    let x : ℕ × ℕ = get_or lines (at - 1) d in
    let up : suc (at - 1) ≡ at = omega (arith, some) in
    let step : drop (at - 1) lines ≡ x ∷ drop at lines =
    drop-cons lines (at - 1) d (omega (arith, some, within)) ∙ ap (λ (k : ℕ). x ∷ drop k lines) up in
    let same : map (λ (entry : ℕ × ℕ). entry.0) given ≡ map (λ (entry : ℕ × ℕ). entry.0) entries =
    ap (λ (es : List (ℕ × ℕ)). map (λ (entry : ℕ × ℕ). entry.0) es) s.numbers ∙ renumbered_lines (drop at lines) entries in
    record {
      numbers = rw step (e ∙ ap (λ (es : List (ℕ × ℕ)). renumbered (x ∷ []) es) s.numbers ∙ renumbered_more x (drop at lines) entries);
      there = λ i f a b. elim (cases_lt i at) [
        | inl low ↦
            let here : i ≡ at - 1 = omega (arith, a, low) in
            let one : get_or lines (at - 1) d ≡ get_or lines (at - 1) f = get_or_default lines (at - 1) d f (omega (arith, some, within)) in
            rw (here, ← one, ← same) c
        | inr high ↦ s.there i f high b
      ];
    }

-- a line without an entry
pub not_given : (lines entries : List (ℕ × ℕ)) (at : ℕ) (d : ℕ × ℕ) (given : List (ℕ × ℕ)) → 0 < at → at ≤ length lines →
    AreGiven lines entries at given → ¬ Contains (map (λ entry. entry.0) given) (get_or lines (at - 1) d).0 →
    ¬ All (λ line. Contains (map (λ entry. entry.0) entries) line.0) lines
not_given lines entries at d given some within s none all =
    let same : map (λ (entry : ℕ × ℕ). entry.0) given ≡ map (λ (entry : ℕ × ℕ). entry.0) entries =
    ap (λ (es : List (ℕ × ℕ)). map (λ (entry : ℕ × ℕ). entry.0) es) s.numbers ∙ renumbered_lines (drop at lines) entries in
    none (rw same (all (at - 1) d (omega (arith, some, within))))

-- the number of a choice
fits_rest : (b : LineBounds) (bs : List LineBounds) (e : ℕ × ℕ) (es : List (ℕ × ℕ)) → Fits (b ∷ bs) (e ∷ es) → Fits bs es
fits_rest b bs e es f = record {
  lines = omega (arith, f.lines);
  each = λ i c g h. f.each (suc i) c g (omega (arith, h));
}

row_below : (a d w b : ℕ) → a + 1 ≤ w → b < d → a * d + b < w * d
row_below a d w b h k = omega (arith, mul-le-mul_left d h)

pub number_below : (bs : List LineBounds) (es : List (ℕ × ℕ)) → Fits bs es → number_from bs es < product_of bs
number_below [] es f = omega arith
number_below (b ∷ bs) [] f = absurd (omega (arith, f.lines))
number_below (b ∷ bs) (e ∷ es) f =
    let first : Allows b e = f.each 0 b e (omega arith) in
    let rest : number_from bs es < product_of bs = number_below bs es (fits_rest b bs e es f) in
    row_below (e.1 - b.floor) (product_of bs) (numbers_of b) (number_from bs es) (omega (arith, first.1, first.2)) rest

pub record IsCounted (bs : List LineBounds) (es : List (ℕ × ℕ)) (at number : ℕ) : Type 0 where
  pub all : number * product_of (drop at bs) + number_from (drop at bs) (drop at es) ≡ number_from bs es
  pub small : number < 65536

pub one_counted : (bs : List LineBounds) (es : List (ℕ × ℕ)) (at number : ℕ) (b : LineBounds) (e : ℕ × ℕ) → at < length bs → Fits bs es →
    product_of bs ≤ 65536 → IsCounted bs es at number →
    IsCounted bs es (at + 1) (number * numbers_of (get_or bs at b) + ((get_or es at e).1 - (get_or bs at b).floor))
one_counted bs es at number b e h f few s =
    let up : suc at ≡ at + 1 = omega arith in
    let line : drop at bs ≡ get_or bs at b ∷ drop (at + 1) bs = rw (← up) (drop-cons bs at b h) in
    let entry : drop at es ≡ get_or es at e ∷ drop (at + 1) es = rw (← up) (drop-cons es at e (omega (arith, h, f.lines))) in
    let next : number * numbers_of (get_or bs at b) + ((get_or es at e).1 - (get_or bs at b).floor) ≡
    number * numbers_of (get_or bs at b) + ((get_or es at e).1 - (get_or bs at b).floor) = refl in
    let whole : number * product_of (get_or bs at b ∷ drop (at + 1) bs)
    + number_from (get_or bs at b ∷ drop (at + 1) bs) (get_or es at e ∷ drop (at + 1) es) ≡ number_from bs es =
    rw (line, entry) at s.all in
    let all : (number * numbers_of (get_or bs at b) + ((get_or es at e).1 - (get_or bs at b).floor)) * product_of (drop (at + 1) bs)
    + number_from (drop (at + 1) bs) (drop (at + 1) es) ≡ number_from bs es = omega (arith, whole) in
    record {
      all = all;
      small = omega (
        arith,
        all,
        few,
        number_below bs es f,
        le-mul_of_pos_right (number * numbers_of (get_or bs at b) + ((get_or es at e).1 - (get_or bs at b).floor)) (zero_lt_product (drop (at + 1) bs)),
      );
    }

pub all_counted : (bs : List LineBounds) (es : List (ℕ × ℕ)) (at number : ℕ) → length bs ≤ at → IsCounted bs es at number →
    number ≡ number_from bs es
all_counted bs es at number h s =
    let none : drop at bs ≡ [] = grind (arith, common_steps, h) in
    let whole : number * product_of [] + number_from [] (drop at es) ≡ number_from bs es = rw none at s.all in
    omega (arith, whole)
