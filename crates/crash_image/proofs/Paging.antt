-- The lines of all pages, one by one.
use Rattle.std.proofs.Common.{◌≡◌, ℕ, zero, suc, ◌+◌, ◌-◌, ◌*◌, ◌/◌, ◌%◌, ◌<◌, ◌≤◌, List, [], ◌∷◌, ◌++◌, length, get_or, replicate, refl, ap, ◌∙◌, sym, inl, inr, length-append, arith}
use Rattle.std.specs.Prelude.{slice_set}
use Rattle.std.specs.List.{AllByRecursion}
use Rattle.std.proofs.lemmas.Bool.{cases_lt}
use Rattle.std.proofs.lemmas.Grind.{common_steps}
use Rattle.crash_image.specs.Lines.{LineView, unstored}
use Rattle.std.proofs.lemmas.List.{get_or-replicate, get_or_default, length-replicate}
use Rattle.crash_image.specs.Tables.{IsMade, page_lines, table_lines}

-- a line of the first page, and one behind it
front_line : (xs ys : List LineView) (i : ℕ) (d : LineView) → i < length xs → get_or (xs ++ ys) i d ≡ get_or xs i d
front_line xs ys i d h = grind (arith, common_steps, h)

behind_line : (xs ys : List LineView) (i : ℕ) (d : LineView) → get_or (xs ++ ys) (length xs + i) d ≡ get_or ys i d
behind_line xs ys i d = grind (arith, common_steps)

set_front : (xs ys : List LineView) (i : ℕ) (x : LineView) → i < length xs → slice_set (xs ++ ys) i x ≡ slice_set xs i x ++ ys
set_front [] ys i x h = absurd (omega (arith, h))
set_front (z ∷ xs) ys zero x h = refl
set_front (z ∷ xs) ys (suc i) x h = ap (λ (zs : List LineView). z ∷ zs) (set_front xs ys i x (omega (arith, h)))

set_behind : (xs ys : List LineView) (i : ℕ) (x : LineView) → slice_set (xs ++ ys) (length xs + i) x ≡ xs ++ slice_set ys i x
set_behind [] ys i x = let e : length {A = LineView} [] + i ≡ i = omega arith in rw e refl
set_behind (z ∷ xs) ys i x =
    let e : length (z ∷ xs) + i ≡ suc (length xs + i) = omega arith in
    rw e (ap (λ (zs : List LineView). z ∷ zs) (set_behind xs ys i x))

-- a line of the table is one of its page
abbrev AreWhole : List (List LineView) → Type 0
AreWhole pages = AllByRecursion (λ page. length page ≡ 64) pages

page_line : (pages : List (List LineView)) (p o : ℕ) (d : LineView) → AreWhole pages → p < length pages → o < 64 →
    get_or (table_lines pages) (64 * p + o) d ≡ get_or (get_or pages p []) o d
page_line [] p o d w h l = absurd (omega (arith, h))
page_line (x ∷ pages) zero o d w h l =
    let e : 64 * 0 + o ≡ o = omega arith in
    rw e (front_line x (table_lines pages) o d (omega (arith, w.0, l)))
page_line (x ∷ pages) (suc p) o d w h l =
    let e : 64 * suc p + o ≡ length x + (64 * p + o) = omega (arith, w.0) in
    rw e (behind_line x (table_lines pages) (64 * p + o) d ∙ page_line pages p o d w.1 (omega (arith, h)) l)

page_set : (pages : List (List LineView)) (p o : ℕ) (x : LineView) → AreWhole pages → p < length pages → o < 64 →
    table_lines (slice_set pages p (slice_set (get_or pages p []) o x)) ≡ slice_set (table_lines pages) (64 * p + o) x
page_set [] p o x w h l = absurd (omega (arith, h))
page_set (y ∷ pages) zero o x w h l =
    let e : 64 * 0 + o ≡ o = omega arith in
    rw e (sym (set_front y (table_lines pages) o x (omega (arith, w.0, l))))
page_set (y ∷ pages) (suc p) o x w h l =
    let e : 64 * suc p + o ≡ length y + (64 * p + o) = omega (arith, w.0) in
    rw e (ap (λ (zs : List LineView). y ++ zs) (page_set pages p o x w.1 (omega (arith, h)) l) ∙ sym (set_behind y (table_lines pages) (64 * p + o) x))

pub table_length : (pages : List (List LineView)) → AllByRecursion (λ page. length page ≡ 64) pages → length (table_lines pages) ≡ 64 * length pages
table_length [] w = omega arith
table_length (x ∷ pages) w = length-append x (table_lines pages) ∙ omega (arith, w.0, table_length pages w.1)

pub page_there : (pages : List (List LineView)) (line : ℕ) → AllByRecursion (λ page. length page ≡ 64) pages → line < length (table_lines pages) →
    line / 64 < length pages
page_there pages line w h = omega (arith, h, table_length pages w)

pub line_there : (pages : List (List LineView)) (line : ℕ) (d : LineView) → AllByRecursion (λ page. length page ≡ 64) pages → line < length (table_lines pages) →
    get_or (get_or pages (line / 64) []) (line % 64) d ≡ get_or (table_lines pages) line d
line_there pages line d w h =
    let e : line ≡ 64 * (line / 64) + line % 64 = omega arith in
    sym (ap (λ (l : ℕ). get_or (table_lines pages) l d) e ∙ page_line pages (line / 64) (line % 64) d w (page_there pages line w h) (omega arith))

pub line_set : (pages : List (List LineView)) (line : ℕ) (x : LineView) → AllByRecursion (λ page. length page ≡ 64) pages → line < length (table_lines pages) →
    table_lines (slice_set pages (line / 64) (slice_set (get_or pages (line / 64) []) (line % 64) x)) ≡ slice_set (table_lines pages) line x
line_set pages line x w h =
    let e : line ≡ 64 * (line / 64) + line % 64 = omega arith in
    page_set pages (line / 64) (line % 64) x w (page_there pages line w h) (omega arith) ∙ ap (λ (l : ℕ). slice_set (table_lines pages) l x) (sym e)

pub whole_set : (pages : List (List LineView)) (p : ℕ) (page : List LineView) → AllByRecursion (λ page. length page ≡ 64) pages → length page ≡ 64 →
    AllByRecursion (λ page. length page ≡ 64) (slice_set pages p page)
whole_set [] p page w h = w
whole_set (x ∷ pages) zero page w h = (h, w.1)
whole_set (x ∷ pages) (suc p) page w h = (w.0, whole_set pages p page w.1 h)

pub whole_page : (pages : List (List LineView)) (p : ℕ) → AllByRecursion (λ page. length page ≡ 64) pages → p < length pages → length (get_or pages p []) ≡ 64
whole_page [] p w h = absurd (omega (arith, h))
whole_page (x ∷ pages) zero w h = w.0
whole_page (x ∷ pages) (suc p) w h = whole_page pages p w.1 (omega (arith, h))

pub replicate_whole : length (replicate 64 unstored) ≡ 64
replicate_whole = length-replicate 64 unstored

-- a table of which no line is stored to
pub whole_none : (count : ℕ) → AllByRecursion (λ page. length page ≡ 64) (replicate count (replicate 64 unstored))
whole_none zero = tt
whole_none (suc n) = (length-replicate 64 unstored, whole_none n)

pub table_none : (count l : ℕ) (d : LineView) → l < 64 * count → get_or (table_lines (replicate count (replicate 64 unstored))) l d ≡ unstored
table_none zero l d h = absurd (omega (arith, h))
table_none (suc n) l d h = elim (cases_lt l 64) [
  | inl front ↦ front_line (replicate 64 unstored) (table_lines (replicate n (replicate 64 unstored))) l d (omega (arith, front, replicate_whole))
      ∙ get_or-replicate 64 l unstored d front
  | inr behind ↦
      let e : l ≡ length (replicate 64 unstored) + (l - 64) = omega (arith, behind, replicate_whole) in
      ap (λ (k : ℕ). get_or (table_lines (replicate (suc n) (replicate 64 unstored))) k d) e
      ∙ behind_line (replicate 64 unstored) (table_lines (replicate n (replicate 64 unstored))) (l - 64) d
      ∙ table_none n (l - 64) d (omega (arith, h, behind))
]

-- a page before it is made
pub unmade_line : (lines : List LineView) (at : ℕ) → IsMade lines → length lines ≤ at → at < 64 → get_or (page_lines lines) at unstored ≡ unstored
unmade_line [] at made past h = get_or-replicate 64 at unstored unstored h
unmade_line (line ∷ lines) at made past h = absurd (elim made [ inl none ↦ omega (arith, none) | inr whole ↦ omega (arith, whole, past, h) ])

pub made_whole : (lines : List LineView) → IsMade lines → length (page_lines lines) ≡ 64
made_whole [] made = length-replicate 64 unstored
made_whole (line ∷ lines) made = elim made [ inl none ↦ absurd (omega (arith, none)) | inr whole ↦ whole ]

-- where a page is made, its lines are its own
pub made_lines : (lines : List LineView) → length lines ≡ 64 → page_lines lines ≡ lines
made_lines [] whole = absurd (omega (arith, whole))
made_lines (line ∷ lines) whole = refl

pub empty_page : (lines : List LineView) → length lines ≡ 0 → page_lines (replicate 64 unstored) ≡ page_lines lines
empty_page [] none = made_lines (replicate 64 unstored) (length-replicate 64 unstored)
empty_page (line ∷ lines) none = absurd (omega (arith, none))

pub some_whole : (lines : List LineView) → IsMade lines → ¬ (length lines ≡ 0) → length lines ≡ 64
some_whole lines made some = elim made [ inl none ↦ absurd (some none) | inr whole ↦ whole ]

pub made_line : (lines : List LineView) (at : ℕ) → at < length lines → get_or lines at unstored ≡ get_or (page_lines lines) at unstored
made_line [] at h = absurd (omega (arith, h))
made_line (line ∷ lines) at h = refl

-- one line of a page
pub set_page : (lines made : List LineView) (at : ℕ) (x : LineView) → length made ≡ 64 → page_lines made ≡ page_lines lines →
    page_lines (slice_set made at x) ≡ slice_set (page_lines lines) at x
set_page lines made at x whole same =
    let size : length (slice_set made at x) ≡ 64 = grind (arith, common_steps, whole) in
    made_lines (slice_set made at x) size ∙ ap (λ (xs : List LineView). slice_set xs at x) (sym (made_lines made whole) ∙ same)

pub get_page : (lines made : List LineView) (at : ℕ) (d : LineView) → at < 64 → length made ≡ 64 → page_lines made ≡ page_lines lines →
    get_or made at d ≡ get_or (page_lines lines) at unstored
get_page lines made at d h whole same =
    get_or_default made at d unstored (omega (arith, h, whole)) ∙ ap (λ (xs : List LineView). get_or xs at unstored) (sym (made_lines made whole) ∙ same)

pub set_whole : (made : List LineView) (at : ℕ) (x : LineView) → length made ≡ 64 → length (page_lines (slice_set made at x)) ≡ 64
set_whole made at x whole =
    let size : length (slice_set made at x) ≡ 64 = grind (arith, common_steps, whole) in
    ap (λ (xs : List LineView). length xs) (made_lines (slice_set made at x) size) ∙ size
