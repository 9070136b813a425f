-- A table of numbers becomes the cut of an entry, on the way from the entry to the first.
use Rattle.std.proofs.Common.{◌≡◌, ◌≢◌, inl, inr, ℕ, zero, suc, ◌≤◌, ◌<◌, ◌==◌, ◌&&◌, if◌then◌else◌, true, false, eqb, List, ◌++◌, length, slice_index, refl, sym, ap, subst, ◌∙◌, arith}
use Rattle.std.proofs.lemmas.Bool.{cases_Bool, cases_eq}
use Rattle.std.proofs.lemmas.List.{get_or_append_left}
use Rattle.std.proofs.Math.Path.{fun_ext}
use Rattle.verdict.specs.Numbers.{number_over, AreAbove}
use Rattle.verdict.specs.Queue.{entry, entry_at, with_number, cut_within, cut_at, IsTree, AreRaised}
use Rattle.verdict.specs.declared.branches.queue.Entry.{Entry}

-- more steps than to the first entry change nothing
within_more : (low : ℕ → ℕ) (entries : List Entry) (steps more i : ℕ) → ((j : ℕ) → 0 < j → j < length entries → (entry_at entries j).parent < j) →
    i < length entries → i ≤ steps → i ≤ more → cut_within low entries steps i ≡ cut_within low entries more i
within_more low entries zero zero i t less a b = refl
within_more low entries zero (suc more) i t less a b = let z : i ≡ 0 = omega (arith, a) in let e : eqb i 0 ≡ true = grind (arith, z) in rw e refl
within_more low entries (suc steps) zero i t less a b = let z : i ≡ 0 = omega (arith, b) in let e : eqb i 0 ≡ true = grind (arith, z) in rw e refl
within_more low entries (suc steps) (suc more) i t less a b = elim (cases_eq i 0) [
  | inl z ↦ let e : eqb i 0 ≡ true = grind (arith, z) in rw e refl
  | inr nz ↦
      let behind : (entry_at entries i).parent < i = t i (omega (arith, nz)) less in
      let same : cut_within low entries steps (entry_at entries i).parent ≡ cut_within low entries more (entry_at entries i).parent =
      within_more low entries steps more (entry_at entries i).parent t (omega (arith, behind, less)) (omega (arith, behind, a)) (omega (arith, behind, b)) in
      ap (λ (c : ℕ → ℕ). if i == 0 then low else with_number c (entry_at entries i).line (entry_at entries i).number) same
]

-- the cut of an entry is its parent's, with one line raised
pub cut_step : (low : ℕ → ℕ) (entries : List Entry) (i : ℕ) → ((j : ℕ) → 0 < j → j < length entries → (entry_at entries j).parent < j) →
    0 < i → i < length entries → cut_at low entries i ≡ with_number (cut_at low entries (entry_at entries i).parent) (entry_at entries i).line (entry_at entries i).number
cut_step low entries zero t pos less = absurd (omega (arith, pos))
cut_step low entries (suc i) t pos less =
    let e : eqb (suc i) 0 ≡ false = grind arith in
    let behind : (entry_at entries (suc i)).parent < suc i = t (suc i) pos less in
    rw e (ap (λ (c : ℕ → ℕ). with_number c (entry_at entries (suc i)).line (entry_at entries (suc i)).number)
    (within_more low entries i (entry_at entries (suc i)).parent (entry_at entries (suc i)).parent t (omega (arith, behind, less)) (omega (arith, behind)) (omega arith)))

-- entries behind change no cut
pub cut_more : (low : ℕ → ℕ) (entries more : List Entry) (steps i : ℕ) → ((j : ℕ) → 0 < j → j < length entries → (entry_at entries j).parent < j) →
    i < length entries → cut_within low (entries ++ more) steps i ≡ cut_within low entries steps i
cut_more low entries more zero i t less = refl
cut_more low entries more (suc steps) i t less = elim (cases_eq i 0) [
  | inl z ↦ let e : eqb i 0 ≡ true = grind (arith, z) in rw e refl
  | inr nz ↦
      let here : entry_at (entries ++ more) i ≡ entry_at entries i = get_or_append_left entries more (entry 0 0 0 0) i less in
      let behind : (entry_at entries i).parent < i = t i (omega (arith, nz)) less in
      let same : cut_within low (entries ++ more) steps (entry_at entries i).parent ≡ cut_within low entries steps (entry_at entries i).parent =
      cut_more low entries more steps (entry_at entries i).parent t (omega (arith, behind, less)) in
      ap (λ (x : Entry). if i == 0 then low else with_number (cut_within low (entries ++ more) steps x.parent) x.line x.number) here
      ∙ ap (λ (c : ℕ → ℕ). if i == 0 then low else with_number c (entry_at entries i).line (entry_at entries i).number) same
]

pub over_none : (c : ℕ → ℕ) (numbers : List ℕ) → ((l : ℕ) → slice_index numbers l ≡ 0) → number_over c numbers ≡ c
over_none c numbers h = fun_ext (λ l. let e : eqb (slice_index numbers l) 0 ≡ true = grind (arith, h l) in rw e refl)

-- raising a line in the table in place of the cut
pub over_raised : (c : ℕ → ℕ) (old new : List ℕ) (line number : ℕ) → number ≢ 0 →
    ((l : ℕ) → slice_index new l ≡ (if (l == line) && (slice_index old l == 0) then number else slice_index old l)) →
    number_over (with_number c line number) old ≡ number_over c new
over_raised c old new line number nz h = fun_ext (λ l. elim (cases_eq (slice_index old l) 0) [
  | inl z ↦
      let t : eqb (slice_index old l) 0 ≡ true = grind (arith, z) in
      elim (cases_eq l line) [
        | inl e ↦
            let s : eqb l line ≡ true = grind (arith, e) in
            let k : slice_index new l ≡ number = rw (s, t) at (h l) in
            let f : eqb number 0 ≡ false = grind (arith, nz) in
            rw (t, s) (let g : number_over c new l ≡ number = ap (λ (n : ℕ). if n == 0 then c l else n) k ∙ (rw f refl) in sym g)
        | inr ne ↦
            let s : eqb l line ≡ false = grind (arith, ne) in
            let k : slice_index new l ≡ slice_index old l = rw s at (h l) in
            rw (t, s) (let g : number_over c new l ≡ c l = ap (λ (n : ℕ). if n == 0 then c l else n) (k ∙ z) in sym g)
      ]
  | inr n ↦
      let t : eqb (slice_index old l) 0 ≡ false = grind (arith, n) in
      let k : slice_index new l ≡ slice_index old l = elim (cases_Bool (eqb l line)) [ inl s ↦ rw (s, t) at (h l) | inr s ↦ rw s at (h l) ] in
      let g : number_over c new l ≡ number_over c old l = ap (λ (n : ℕ). if n == 0 then c l else n) k in
      let a : number_over (with_number c line number) old l ≡ slice_index old l = rw t refl in
      let b : number_over c old l ≡ slice_index old l = rw t refl in
      a ∙ sym b ∙ sym g
])

pub above_raised : (low : ℕ → ℕ) (old new : List ℕ) (line number : ℕ) → low line < number →
    ((l : ℕ) → slice_index new l ≡ (if (l == line) && (slice_index old l == 0) then number else slice_index old l)) →
    AreAbove low old → AreAbove low new
above_raised low old new line number less h a l nz = elim (cases_Bool ((l == line) && (slice_index old l == 0))) [
  | inl t ↦
      let k : slice_index new l ≡ number = rw t at (h l) in
      let e : l ≡ line = grind (arith, t) in
      subst (λ (n : ℕ). low l < n) (sym k) (subst (λ (m : ℕ). low m < number) (sym e) less)
  | inr f ↦
      let k : slice_index new l ≡ slice_index old l = rw f at (h l) in
      subst (λ (n : ℕ). low l < n) (sym k) (a l (λ z. nz (k ∙ z)))
]

pub above_none : (low : ℕ → ℕ) (numbers : List ℕ) → ((l : ℕ) → slice_index numbers l ≡ 0) → AreAbove low numbers
above_none low numbers h l nz = absurd (nz (h l))

-- what the table and the entries that are still ahead say
pub record IsOnWay (entries : List Entry) (at next : ℕ) (numbers : List ℕ) : Type 0 where
  pub there : next < length entries
  pub cut : (low : ℕ → ℕ) → AreRaised low entries → number_over (cut_at low entries next) numbers ≡ cut_at low entries at
  pub above : (low : ℕ → ℕ) → AreRaised low entries → AreAbove low numbers

pub way_first : (entries : List Entry) (at : ℕ) (numbers : List ℕ) → at < length entries → ((l : ℕ) → slice_index numbers l ≡ 0) → IsOnWay entries at at numbers
way_first entries at numbers less h = record {
  there = less;
  cut = λ low r. over_none (cut_at low entries at) numbers h;
  above = λ low r. above_none low numbers h;
}

pub way_next : (size : ℕ) (entries : List Entry) (at next : ℕ) (e : Entry) (old new : List ℕ) → IsTree size entries → next ≢ 0 → e ≡ entry_at entries next →
    ((l : ℕ) → slice_index new l ≡ (if (l == e.line) && (slice_index old l == 0) then e.number else slice_index old l)) →
    IsOnWay entries at next old → IsOnWay entries at e.parent new
way_next size entries at next e old new t nz same h w =
    let pos : 0 < next = omega (arith, nz) in
    let behind : e.parent < next = subst (λ (x : Entry). x.parent < next) (sym same) (t.behind next pos w.there) in
    record {
      there = let less = w.there in omega (arith, behind, less);
      cut = λ low r.
          (let raised : low e.line < e.number = subst (λ (x : Entry). low x.line < x.number) (sym same) (r next pos w.there) in
          let step : cut_at low entries next ≡ with_number (cut_at low entries e.parent) e.line e.number =
          subst (λ (x : Entry). cut_at low entries next ≡ with_number (cut_at low entries x.parent) x.line x.number) (sym same) (cut_step low entries next t.behind pos w.there) in
          sym (over_raised (cut_at low entries e.parent) old new e.line e.number (λ z. omega (arith, z, raised)) h)
          ∙ ap (λ (c : ℕ → ℕ). number_over c old) (sym step) ∙ w.cut low r);
      above = λ low r.
          (let raised : low e.line < e.number = subst (λ (x : Entry). low x.line < x.number) (sym same) (r next pos w.there) in
          above_raised low old new e.line e.number raised h (w.above low r));
    }

pub way_end : (entries : List Entry) (at next : ℕ) (numbers : List ℕ) (low : ℕ → ℕ) → next ≡ 0 → AreRaised low entries → IsOnWay entries at next numbers →
    number_over low numbers ≡ cut_at low entries at
way_end entries at next numbers low z r w = subst (λ (n : ℕ). number_over (cut_at low entries n) numbers ≡ cut_at low entries at) z (w.cut low r)
