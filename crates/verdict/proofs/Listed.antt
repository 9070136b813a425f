-- Tables by line, and the lists by which they are cleared.
use Rattle.std.proofs.Common.{◌≡◌, ◌≢◌, ◌⊎◌, inl, inr, ℕ, zero, suc, ◌+◌, ◌≤◌, ◌<◌, ◌==◌, Bool, true, false, eqb, ◌||◌, if◌then◌else◌, List, [], ◌∷◌, ◌++◌, length, take, drop, get_or, set, slice_index, refl, sym, ap, subst, ◌∙◌, arith, true≢false, get_or-set_other, get_or-set_same}
use Rattle.std.specs.Prelude.{bit_or}
use Rattle.std.proofs.lemmas.List.{take_more}
use Rattle.std.proofs.lemmas.Bool.{cases_Bool, cases_eq}
use Rattle.std.specs.List.{AllByRecursion}
use Rattle.verdict.specs.Branches.{has_line}
use Rattle.verdict.specs.Numbers.{has, is_flagged, AreInList, AreListed}
use Rattle.verdict.specs.declared.branches.question.Question.{Question}

pub below_at : (n : ℕ) (lines : List ℕ) (i d : ℕ) → i < length lines → AllByRecursion (λ l. l < n) lines → get_or lines i d < n
below_at n [] i d less h = absurd (omega (arith, less))
below_at n (x ∷ lines) zero d less h = h.0
below_at n (x ∷ lines) (suc i) d less h = below_at n lines i d (omega (arith, less)) h.1

pub below_last : (n : ℕ) (lines : List ℕ) (x : ℕ) → x < n → AllByRecursion (λ l. l < n) lines → AllByRecursion (λ l. l < n) (lines ++ x ∷ [])
below_last n [] x less h = (less, tt)
below_last n (y ∷ lines) x less h = (h.0, below_last n lines x less h.1)

pub below_same : (n m : ℕ) (lines : List ℕ) → n ≡ m → AllByRecursion (λ l. l < n) lines → AllByRecursion (λ l. l < m) lines
below_same n m lines e h = subst (λ (k : ℕ). AllByRecursion (λ l. l < k) lines) e h

pub has_join : (l : ℕ) (a b : List ℕ) → has l (a ++ b) ≡ (has l a || has l b)
has_join l [] b = refl
has_join l (x ∷ a) b =
    (elim (eqb x l) as (λ e. (e || has l (a ++ b)) ≡ ((e || has l a) || has l b)) [ true ↦ refl | false ↦ has_join l a b ])

pub has_more : (l : ℕ) (lines : List ℕ) (i d : ℕ) → i < length lines → has l (take (i + 1) lines) ≡ (has l (take i lines) || (get_or lines i d == l))
has_more l lines i d less =
    ap (λ (xs : List ℕ). has l xs) (take_more lines i d less) ∙ has_join l (take i lines) (get_or lines i d ∷ [])
    ∙ ap (λ (b : Bool). has l (take i lines) || b) (elim (eqb (get_or lines i d) l) as (λ e. (e || false) ≡ e) [ true ↦ refl | false ↦ refl ])

pub drop_past : {A : Type 0} (lines : List A) (i : ℕ) → length lines ≤ i → drop i lines ≡ []
drop_past [] zero h = refl
drop_past [] (suc i) h = refl
drop_past (x ∷ lines) zero h = absurd (omega (arith, h))
drop_past (x ∷ lines) (suc i) h = drop_past lines i (omega (arith, h))

-- one more line is flagged
pub flag_set : (flags : List Bool) (line l : ℕ) → line < length flags → is_flagged l (set flags line true) ≡ (is_flagged l flags || (line == l))
flag_set flags line l less = elim (cases_eq line l) [
  | inl e ↦ let t : eqb line l ≡ true = grind (arith, e) in
      rw t (subst (λ (m : ℕ). get_or (set flags line true) m false ≡ true) e (get_or-set_same flags line true false less)
      ∙ (elim (is_flagged l flags) as (λ b. true ≡ (b || true)) [ true ↦ refl | false ↦ refl ]))
  | inr ne ↦ let f : eqb line l ≡ false = grind (arith, ne) in
      rw f (get_or-set_other flags line l true false (λ e. ne (sym e))
      ∙ (elim (is_flagged l flags) as (λ b. b ≡ (b || false)) [ true ↦ refl | false ↦ refl ]))
]

-- a line that is flagged already
pub flag_kept : (flags : List Bool) (line l : ℕ) → is_flagged line flags ≡ true → is_flagged l flags ≡ (is_flagged l flags || (line == l))
flag_kept flags line l t = elim (cases_eq line l) [
  | inl e ↦ let k : is_flagged l flags ≡ true = subst (λ (m : ℕ). is_flagged m flags ≡ true) e t in rw k refl
  | inr ne ↦ let f : eqb line l ≡ false = grind (arith, ne) in
      rw f (elim (is_flagged l flags) as (λ b. b ≡ (b || false)) [ true ↦ refl | false ↦ refl ])
]

has_left : (l : ℕ) (a b : List ℕ) → has l a ≡ true → has l (a ++ b) ≡ true
has_left l a b t = has_join l a b ∙ ap (λ (x : Bool). x || has l b) t

has_last : (l : ℕ) (a : List ℕ) → has l (a ++ l ∷ []) ≡ true
has_last l a = has_join l a (l ∷ []) ∙ (let t : eqb l l ≡ true = grind arith in rw t (elim (has l a) as (λ b. (b || true) ≡ true) [ true ↦ refl | false ↦ refl ]))

pub length_set : {A : Type 0} (xs : List A) (i : ℕ) (x : A) → length (set xs i x) ≡ length xs
length_set [] zero x = refl
length_set [] (suc i) x = refl
length_set (y ∷ xs) zero x = refl
length_set (y ∷ xs) (suc i) x = ap suc (length_set xs i x)

pub flag_listed : (flags : List Bool) (lines : List ℕ) (line : ℕ) → line < length flags → AreInList flags lines → AreInList (set flags line true) (lines ++ line ∷ [])
flag_listed flags lines line less h = record {
  listed = λ l t. elim (cases_eq line l) [
    | inl e ↦ subst (λ (m : ℕ). has m (lines ++ line ∷ []) ≡ true) e (has_last line lines)
    | inr ne ↦ has_left l lines (line ∷ []) (h.listed l (sym (get_or-set_other flags line l true false (λ e. ne (sym e))) ∙ t))
  ];
  below = below_same (length flags) (length (set flags line true)) (lines ++ line ∷ []) (sym (length_set flags line true)) (below_last (length flags) lines line less h.below);
}

pub number_listed : (numbers lines : List ℕ) (line number : ℕ) → line < length numbers → AreListed numbers lines → AreListed (set numbers line number) (lines ++ line ∷ [])
number_listed numbers lines line number less h = record {
  listed = λ l t. elim (cases_eq line l) [
    | inl e ↦ subst (λ (m : ℕ). has m (lines ++ line ∷ []) ≡ true) e (has_last line lines)
    | inr ne ↦ has_left l lines (line ∷ []) (h.listed l (λ z. t (get_or-set_other numbers line l number 0 (λ e. ne (sym e)) ∙ z)))
  ];
  below = below_same (length numbers) (length (set numbers line number)) (lines ++ line ∷ []) (sym (length_set numbers line number)) (below_last (length numbers) lines line less h.below);
}

last_below : (n : ℕ) (lines : List ℕ) (x : ℕ) → AllByRecursion (λ l. l < n) (lines ++ x ∷ []) → x < n
last_below n [] x h = h.0
last_below n (y ∷ lines) x h = last_below n lines x h.1

front_below : (n : ℕ) (lines : List ℕ) (x : ℕ) → AllByRecursion (λ l. l < n) (lines ++ x ∷ []) → AllByRecursion (λ l. l < n) lines
front_below n [] x h = tt
front_below n (y ∷ lines) x h = (h.0, front_below n lines x h.1)

other_has : (l x : ℕ) (lines : List ℕ) → x ≢ l → has l (lines ++ x ∷ []) ≡ true → has l lines ≡ true
other_has l x lines ne t = elim (cases_Bool (has l lines)) [
  | inl s ↦ s
  | inr f ↦ let g : eqb x l ≡ false = grind (arith, ne) in
      absurd (true≢false (sym t ∙ has_join l lines (x ∷ []) ∙ ap (λ (b : Bool). b || has l (x ∷ [])) f ∙ (rw g refl)))
]

-- with a line at the list's end, and its flag, each line of the list is flagged still
pub listed_flag : (flags : List Bool) (lines : List ℕ) (line : ℕ) → line < length flags → ((l : ℕ) → has l lines ≡ true → is_flagged l flags ≡ true) →
    (l : ℕ) → has l (lines ++ line ∷ []) ≡ true → is_flagged l (set flags line true) ≡ true
listed_flag flags lines line less h l t = elim (cases_eq line l) [
  | inl e ↦ subst (λ (m : ℕ). is_flagged m (set flags line true) ≡ true) e (get_or-set_same flags line true false less)
  | inr ne ↦ get_or-set_other flags line l true false (λ e. ne (sym e)) ∙ h l (other_has l line lines ne t)
]

-- a line of the list's end, without its flag
pub flag_dropped : (flags : List Bool) (lines old : List ℕ) (line : ℕ) → old ≡ lines ++ line ∷ [] → AreInList flags old → AreInList (set flags line false) lines
flag_dropped flags lines old line e h =
    let h' : AreInList flags (lines ++ line ∷ []) = subst (AreInList flags) e h in
    record {
      listed = λ l t. elim (cases_eq line l) [
        | inl q ↦ absurd (true≢false (sym t ∙ subst (λ (m : ℕ). get_or (set flags line false) m false ≡ false) q (get_or-set_same flags line false false (last_below (length flags) lines line h'.below))))
        | inr ne ↦ other_has l line lines ne (h'.listed l (sym (get_or-set_other flags line l false false (λ q. ne (sym q))) ∙ t))
      ];
      below = below_same (length flags) (length (set flags line false)) lines (sym (length_set flags line false)) (front_below (length flags) lines line h'.below);
    }

pub number_dropped : (numbers lines old : List ℕ) (line : ℕ) → old ≡ lines ++ line ∷ [] → AreListed numbers old → AreListed (set numbers line 0) lines
number_dropped numbers lines old line e h =
    let h' : AreListed numbers (lines ++ line ∷ []) = subst (AreListed numbers) e h in
    record {
      listed = λ l t. elim (cases_eq line l) [
        | inl q ↦ absurd (t (subst (λ (m : ℕ). get_or (set numbers line 0) m 0 ≡ 0) q (get_or-set_same numbers line 0 0 (last_below (length numbers) lines line h'.below))))
        | inr ne ↦ other_has l line lines ne (h'.listed l (λ z. t (get_or-set_other numbers line l 0 0 (λ q. ne (sym q)) ∙ z)))
      ];
      below = below_same (length numbers) (length (set numbers line 0)) lines (sym (length_set numbers line 0)) (front_below (length numbers) lines line h'.below);
    }

pub flags_none : (flags : List Bool) (lines : List ℕ) → lines ≡ [] → AreInList flags lines → (l : ℕ) → is_flagged l flags ≡ false
flags_none flags lines e h l = elim (cases_Bool (is_flagged l flags)) [
  | inl t ↦ absurd (true≢false (sym (h.listed l t) ∙ ap (λ (xs : List ℕ). has l xs) e))
  | inr f ↦ f
]

pub numbers_none : (numbers lines : List ℕ) → lines ≡ [] → AreListed numbers lines → (l : ℕ) → slice_index numbers l ≡ 0
numbers_none numbers lines e h l = elim (cases_eq (slice_index numbers l) 0) [
  | inl z ↦ z
  | inr ne ↦ absurd (true≢false (sym (h.listed l ne) ∙ ap (λ (xs : List ℕ). has l xs) e))
]

-- the flags of one more line of the list
pub flags_more : (start old new : List Bool) (lines : List ℕ) (i : ℕ) → i < length lines → ((l : ℕ) → is_flagged l new ≡ (is_flagged l old || (get_or lines i 0 == l))) →
    ((l : ℕ) → is_flagged l old ≡ (is_flagged l start || has l (take i lines))) → (l : ℕ) → is_flagged l new ≡ (is_flagged l start || has l (take (i + 1) lines))
flags_more start old new lines i less n o l =
    n l ∙ ap (λ (b : Bool). b || (get_or lines i 0 == l)) (o l)
    ∙ (elim (is_flagged l start) as (λ b. ((b || has l (take i lines)) || (get_or lines i 0 == l)) ≡ (b || (has l (take i lines) || (get_or lines i 0 == l)))) [ true ↦ refl | false ↦ refl ])
    ∙ ap (λ (b : Bool). is_flagged l start || b) (sym (has_more l lines i 0 less))

-- lists that differ at none of the first lines below a place
pub same_kept : (one other lines : List ℕ) (i lowest : ℕ) → i < length lines → (get_or lines i 0 < lowest → slice_index one (get_or lines i 0) ≡ slice_index other (get_or lines i 0)) →
    ((l : ℕ) → l < lowest → has l (take i lines) ≡ true → slice_index one l ≡ slice_index other l) →
    (l : ℕ) → l < lowest → has l (take (i + 1) lines) ≡ true → slice_index one l ≡ slice_index other l
same_kept one other lines i lowest less here h l low t = elim (cases_Bool (has l (take i lines))) [
  | inl s ↦ h l low s
  | inr f ↦ elim (cases_eq (get_or lines i 0) l) [
    | inl e ↦ subst (λ (m : ℕ). slice_index one m ≡ slice_index other m) e (here (subst (λ (m : ℕ). m < lowest) (sym e) low))
    | inr ne ↦ let g : eqb (get_or lines i 0) l ≡ false = grind (arith, ne) in
        absurd (true≢false (sym t ∙ has_more l lines i 0 less ∙ ap (λ (b : Bool). b || (get_or lines i 0 == l)) f ∙ g))
  ]
]

pub same_lower : (one other lines : List ℕ) (i lowest : ℕ) → i < length lines → get_or lines i 0 < lowest →
    ((l : ℕ) → l < lowest → has l (take i lines) ≡ true → slice_index one l ≡ slice_index other l) →
    (l : ℕ) → l < get_or lines i 0 → has l (take (i + 1) lines) ≡ true → slice_index one l ≡ slice_index other l
same_lower one other lines i lowest less below h =
    same_kept one other lines i (get_or lines i 0) less (λ k. absurd (omega (arith, k))) (λ l low t. h l (omega (arith, low, below)) t)

-- of the first lines below the end, the lowest in which two tables differ
abbrev pub IsLowest : List ℕ → List ℕ → List ℕ → ℕ → ℕ → ℕ → Type 0
IsLowest one other lines end i lowest =
    (lowest ≤ end) × ((lowest ≡ end) ⊎ (slice_index one lowest ≢ slice_index other lowest))
    × ((l : ℕ) → l < lowest → has l (take i lines) ≡ true → slice_index one l ≡ slice_index other l)

pub lowest_taken : (one other lines : List ℕ) (end i lowest new : ℕ) → i < length lines → get_or lines i 0 < lowest →
    slice_index one (get_or lines i 0) ≢ slice_index other (get_or lines i 0) → new ≡ get_or lines i 0 →
    IsLowest one other lines end i lowest → IsLowest one other lines end (i + 1) new
lowest_taken one other lines end i lowest new less below differ e h = rw e (
  (let m = h.0 in omega (arith, below, m)),
  inr differ,
  same_lower one other lines i lowest less below h.2,
)

pub lowest_kept : (one other lines : List ℕ) (end i lowest new : ℕ) → i < length lines →
    (get_or lines i 0 < lowest → slice_index one (get_or lines i 0) ≡ slice_index other (get_or lines i 0)) → new ≡ lowest →
    IsLowest one other lines end i lowest → IsLowest one other lines end (i + 1) new
lowest_kept one other lines end i lowest new less same e h = rw e (h.0, h.1, same_kept one other lines i lowest less same h.2)

-- the lines of one more question are flagged
pub asked_below : (n : ℕ) (asked : List Question) (i : ℕ) (d : Question) → i < length asked → AllByRecursion (λ q. q.line < n) asked → (get_or asked i d).line < n
asked_below n [] i d less h = absurd (omega (arith, less))
asked_below n (q ∷ asked) zero d less h = h.0
asked_below n (q ∷ asked) (suc i) d less h = asked_below n asked i d (omega (arith, less)) h.1

lines_join : (l : ℕ) (a b : List Question) → has_line l (a ++ b) ≡ (has_line l a || has_line l b)
lines_join l [] b = refl
lines_join l (q ∷ a) b =
    (elim (eqb q.line l) as (λ e. (e || has_line l (a ++ b)) ≡ ((e || has_line l a) || has_line l b)) [ true ↦ refl | false ↦ lines_join l a b ])

line_more : (l : ℕ) (asked : List Question) (i : ℕ) (d : Question) → i < length asked → has_line l (take (i + 1) asked) ≡ (has_line l (take i asked) || ((get_or asked i d).line == l))
line_more l asked i d less =
    ap (λ (qs : List Question). has_line l qs) (take_more asked i d less) ∙ lines_join l (take i asked) (get_or asked i d ∷ [])
    ∙ ap (λ (b : Bool). has_line l (take i asked) || b) (elim (eqb (get_or asked i d).line l) as (λ e. (e || false) ≡ e) [ true ↦ refl | false ↦ refl ])

pub asked_more : (start old new : List Bool) (asked : List Question) (i : ℕ) (d : Question) → i < length asked →
    ((l : ℕ) → is_flagged l new ≡ (is_flagged l old || ((get_or asked i d).line == l))) →
    ((l : ℕ) → is_flagged l old ≡ (is_flagged l start || has_line l (take i asked))) → (l : ℕ) → is_flagged l new ≡ (is_flagged l start || has_line l (take (i + 1) asked))
asked_more start old new asked i d less n o l =
    n l ∙ ap (λ (b : Bool). b || ((get_or asked i d).line == l)) (o l)
    ∙ (elim (is_flagged l start) as (λ b. ((b || has_line l (take i asked)) || ((get_or asked i d).line == l)) ≡ (b || (has_line l (take i asked) || ((get_or asked i d).line == l)))) [ true ↦ refl | false ↦ refl ])
    ∙ ap (λ (b : Bool). is_flagged l start || b) (sym (line_more l asked i d less))

-- what stands at a place of a list, whatever stands for none
pub index_same : (numbers : List ℕ) (i d e : ℕ) → i < length numbers → get_or numbers i d ≡ get_or numbers i e
index_same [] i d e less = absurd (omega (arith, less))
index_same (x ∷ numbers) zero d e less = refl
index_same (x ∷ numbers) (suc i) d e less = index_same numbers i d e (omega (arith, less))

-- another number for a line that the list has
pub number_kept : (numbers lines : List ℕ) (line number : ℕ) → slice_index numbers line ≢ 0 → AreListed numbers lines → AreListed (set numbers line number) lines
number_kept numbers lines line number some h = record {
  listed = λ l t. elim (cases_eq line l) [
    | inl e ↦ h.listed l (subst (λ (m : ℕ). slice_index numbers m ≢ 0) e some)
    | inr ne ↦ h.listed l (λ z. t (get_or-set_other numbers line l number 0 (λ e. ne (sym e)) ∙ z))
  ];
  below = below_same (length numbers) (length (set numbers line number)) lines (sym (length_set numbers line number)) h.below;
}

-- the bytes of one more question
pub bytes_added : (old : List ℕ) (line bytes l : ℕ) → line < length old →
    slice_index (set old line (bit_or (slice_index old line) bytes)) l ≡ (if line == l then bit_or (slice_index old l) bytes else slice_index old l)
bytes_added old line bytes l less = elim (cases_eq line l) [
  | inl e ↦ let t : eqb line l ≡ true = grind (arith, e) in
      rw t (subst (λ (m : ℕ). slice_index (set old line (bit_or (slice_index old line) bytes)) m ≡ bit_or (slice_index old m) bytes) e
      (get_or-set_same old line (bit_or (slice_index old line) bytes) 0 less))
  | inr ne ↦ let f : eqb line l ≡ false = grind (arith, ne) in
      rw f (get_or-set_other old line l (bit_or (slice_index old line) bytes) 0 (λ e. ne (sym e)))
]

-- a number put
pub number_put : (old : List ℕ) (line number l : ℕ) → line < length old → slice_index (set old line number) l ≡ (if l == line then number else slice_index old l)
number_put old line number l less = elim (cases_eq l line) [
  | inl e ↦ let t : eqb l line ≡ true = grind (arith, e) in
      rw t (subst (λ (m : ℕ). slice_index (set old line number) m ≡ number) (sym e) (get_or-set_same old line number 0 less))
  | inr ne ↦ let f : eqb l line ≡ false = grind (arith, ne) in rw f (get_or-set_other old line l number 0 ne)
]
