-- One line of an image, store by store, and a line's entry in a cut.
use Rattle.std.proofs.Common.{◌≡◌, ◌≢◌, ℕ, zero, suc, ◌+◌, ◌-◌, ◌<◌, ◌≤◌, ◌==◌, ◌&&◌, nat_lt, true, false, List, [], ◌∷◌, ◌++◌, length, get_or, take, drop, reverse, inl, inr, refl, ap, ◌∙◌, sym, subst, arith}
use Rattle.std.specs.Prelude.{All, map, slice_index}
use Rattle.std.specs.List.{flat_map}
use Rattle.std.specs.List.Sorted.{IsStrictlyIncreasing}
use Rattle.std.proofs.lemmas.Bool.{cases_Bool}
use Rattle.std.proofs.lemmas.Bool.Decides.{nat_tests}
use Rattle.std.proofs.lemmas.Grind.{common_steps, flat_map-append}
use Rattle.std.proofs.lemmas.List.{reverse-append, get_or-map, get_or_default}
use Rattle.store_trace.proofs.Images.{image_line, length_image}
use Rattle.store_trace.proofs.Lines.{stored_lines_increasing}
use Rattle.store_trace.specs.Cut.{IsCut, number_in}
use Rattle.store_trace.specs.Image.{image, line_after}
use Rattle.store_trace.specs.Stores.{IsInLine, stores}
use Rattle.store_trace.specs.declared.crash_model.step.PersistenceStep.{PersistenceStep}
use Rattle.store_trace.specs.declared.crash_model.step.PersistenceStep.TheVariants as step
use Rattle.line_memory.proofs.Maps.{length-stored}
use Rattle.line_memory.specs.Lines.{IsMedium, line_at}
use Rattle.store_trace.proofs.InLines.{all_in_lines}
use Rattle.store_trace.specs.History.{history, steps_of}
use Rattle.store_trace.specs.TraceView.{IsEvent}
use Rattle.store_trace.specs.declared.event.Event.{Event}
use Rattle.word_bits.specs.Bytes.{stored}
use Rattle.crash_image.specs.ImageScan.{IsLineMade}
use Rattle.crash_image.specs.Places.{IsPlace}
use Rattle.crash_image.specs.View.{CutsView}

-- every image is a medium
length_line_after : (bytes : List ℕ) (l k : ℕ) (p : List PersistenceStep) → length bytes ≡ 64 → All IsInLine p →
    length (line_after bytes l k p) ≡ 64
length_line_after bytes l k [] h inside = h
length_line_after bytes l k (step.Store m o w v ∷ p) h inside =
    let rest : All IsInLine p = λ i d b. inside (suc i) d (omega (arith, b)) in
    let fits : (w ≤ 8) × (o + w ≤ 64) = inside 0 (step.Store m o w v) (omega arith) in
    let before : length (line_after bytes l k p) ≡ 64 = length_line_after bytes l k p h rest in
    let after : length (stored (line_after bytes l k p) o w v) ≡ 64 =
    length-stored (line_after bytes l k p) o w v (omega (arith, fits.1, before)) ∙ before in
    elim (cases_Bool ((m == l) && nat_lt (stores l p) k)) [
      | inl made ↦ rw made after
      | inr unmade ↦ rw unmade before
    ]
length_line_after bytes l k (step.Clean g m ∷ p) h inside = length_line_after bytes l k p h (λ i d b. inside (suc i) d (omega (arith, b)))
length_line_after bytes l k (step.Fence g ∷ p) h inside = length_line_after bytes l k p h (λ i d b. inside (suc i) d (omega (arith, b)))
length_line_after bytes l k (step.Evict m ∷ p) h inside = length_line_after bytes l k p h (λ i d b. inside (suc i) d (omega (arith, b)))

pub image_is_medium : (start : List (List ℕ)) (k : ℕ → ℕ) (events : List Event) → IsMedium start → All IsEvent events →
    IsMedium (image start k (history events))
image_is_medium start k events m inside =
    let len : length (image start k (history events)) ≡ length start = length_image start k (history events) in
    record {
      least = omega (arith, len, m.least);
      most = omega (arith, len, m.most);
      each = record {
        whole = λ l h.
            let there : l < length start = omega (arith, len, h) in
            ap (λ (bytes : List ℕ). length bytes) (image_line start k (history events) l [] [] there)
            ∙ length_line_after (line_at start l) l (k l) (history events) (m.each.whole l there) (all_in_lines events inside);
      };
    }

-- the line before the first store, and after one event more
pub none_made : (start : List ℕ) (l k : ℕ) → IsLineMade start l k [] k start
none_made start l k = record { made = refl; due = omega arith }

pub next_made : (start : List ℕ) (l k o w v : ℕ) (p : List PersistenceStep) (left : ℕ) (bytes : List ℕ) → 0 < left →
    IsLineMade start l k p left bytes → IsLineMade start l k (step.Store l o w v ∷ p) (left - 1) (stored bytes o w v)
next_made start l k o w v p left bytes some s =
    let more : nat_lt (stores l p) k ≡ true = grind (arith, nat_tests, some, s.due) in
    let same : (l == l) ≡ true = grind (arith, nat_tests) in
    record {
      made = rw (same, more) (ap (λ (b : List ℕ). stored b o w v) s.made);
      due = rw same (omega (arith, s.due));
    }

pub other_made : (start : List ℕ) (l k m o w v : ℕ) (p : List PersistenceStep) (left : ℕ) (bytes : List ℕ) → m ≢ l →
    IsLineMade start l k p left bytes → IsLineMade start l k (step.Store m o w v ∷ p) left bytes
other_made start l k m o w v p left bytes apart s =
    let other : (m == l) ≡ false = grind (arith, nat_tests, apart) in
    record { made = rw other s.made; due = rw other s.due }

-- once the line has its stores, the further events leave it
stores_more : (l : ℕ) (q p : List PersistenceStep) → stores l p ≤ stores l (q ++ p)
stores_more l [] p = omega arith
stores_more l (step.Store m o w v ∷ q) p = grind (arith, nat_tests, stores_more l q p)
stores_more l (step.Clean h m ∷ q) p = stores_more l q p
stores_more l (step.Fence h ∷ q) p = stores_more l q p
stores_more l (step.Evict m ∷ q) p = stores_more l q p

further_steps : (start : List ℕ) (l k : ℕ) (q p : List PersistenceStep) → k ≤ stores l p →
    line_after start l k (q ++ p) ≡ line_after start l k p
further_steps start l k [] p done = refl
further_steps start l k (step.Store m o w v ∷ q) p done =
    let enough : nat_lt (stores l (q ++ p)) k ≡ false = grind (arith, nat_tests, done, stores_more l q p) in
    let rest : line_after start l k (q ++ p) ≡ line_after start l k p = further_steps start l k q p done in
    elim (cases_Bool (m == l)) [
      | inl same ↦ rw (same, enough) rest
      | inr other ↦ rw other rest
    ]
further_steps start l k (step.Clean h m ∷ q) p done = further_steps start l k q p done
further_steps start l k (step.Fence h ∷ q) p done = further_steps start l k q p done
further_steps start l k (step.Evict m ∷ q) p done = further_steps start l k q p done

history_append : (before after : List Event) → history (before ++ after) ≡ history after ++ history before
history_append before after =
    ap (λ (es : List Event). flat_map steps_of es) (reverse-append before after)
    ∙ flat_map-append steps_of (reverse after) (reverse before)

pub enough_made : (start : List ℕ) (l k : ℕ) (events : List Event) (i left : ℕ) (bytes : List ℕ) → left ≡ 0 →
    IsLineMade start l k (history (take i events)) left bytes → bytes ≡ line_after start l k (history events)
enough_made start l k events i left bytes none s =
    let parts : take i events ++ drop i events ≡ events = grind (arith, common_steps) in
    let split : history events ≡ history (drop i events) ++ history (take i events) =
    ap (λ (es : List Event). history es) (sym parts) ∙ history_append (take i events) (drop i events) in
    s.made
    ∙ sym (ap (λ (p : List PersistenceStep). line_after start l k p) split
    ∙ further_steps start l k (history (drop i events)) (history (take i events)) (omega (arith, none, s.due)))

pub all_made : (start : List ℕ) (l k : ℕ) (events : List Event) (i left : ℕ) (bytes : List ℕ) → length events ≤ i →
    IsLineMade start l k (history (take i events)) left bytes → bytes ≡ line_after start l k (history events)
all_made start l k events i left bytes last s =
    let all : take i events ≡ events = grind (arith, common_steps, last) in
    s.made ∙ ap (λ (es : List Event). line_after start l k (history es)) all

-- the lines of a cut go upwards
pub cut_increasing : (p : List PersistenceStep) (cut : List (ℕ × ℕ)) → IsCut p cut → IsStrictlyIncreasing (map (λ entry. entry.0) cut)
cut_increasing p cut c = subst (λ (ls : List ℕ). IsStrictlyIncreasing ls) (sym c.lines) (stored_lines_increasing p)

next_line : (entries : List (ℕ × ℕ)) (i : ℕ) (d : ℕ × ℕ) → IsStrictlyIncreasing (map (λ entry. entry.0) entries) →
    i + 1 < length entries → (get_or entries i d).0 < (get_or entries (i + 1) d).0
next_line entries i d up h =
    let size : length (map (λ (entry : ℕ × ℕ). entry.0) entries) ≡ length entries = grind (arith, common_steps) in
    let step : slice_index (map (λ (entry : ℕ × ℕ). entry.0) entries) i < slice_index (map (λ (entry : ℕ × ℕ). entry.0) entries) (i + 1) = up i (omega (arith, h, size)) in
    let low : slice_index (map (λ (entry : ℕ × ℕ). entry.0) entries) i ≡ (get_or entries i d).0 = get_or-map (λ entry. entry.0) entries i d 0 (omega (arith, h)) in
    let high : slice_index (map (λ (entry : ℕ × ℕ). entry.0) entries) (i + 1) ≡ (get_or entries (i + 1) d).0 = get_or-map (λ entry. entry.0) entries (i + 1) d 0 h in
    omega (arith, step, low, high)

lines_above : (entries : List (ℕ × ℕ)) (i k : ℕ) (d : ℕ × ℕ) → IsStrictlyIncreasing (map (λ entry. entry.0) entries) →
    i + k < length entries → (get_or entries i d).0 + k ≤ (get_or entries (i + k) d).0
lines_above entries i zero d up h = let here : i + 0 ≡ i = omega arith in rw here (omega arith)
lines_above entries i (suc k) d up h =
    let before : (get_or entries i d).0 + k ≤ (get_or entries (i + k) d).0 = lines_above entries i k d up (omega (arith, h)) in
    let next : i + suc k ≡ (i + k) + 1 = omega arith in
    let more : (get_or entries (i + k) d).0 < (get_or entries (i + k + 1) d).0 = next_line entries (i + k) d up (omega (arith, h)) in
    rw next (omega (arith, before, more))

pub lines_from : (entries : List (ℕ × ℕ)) (i j : ℕ) (d : ℕ × ℕ) → IsStrictlyIncreasing (map (λ entry. entry.0) entries) →
    i ≤ j → j < length entries → (get_or entries i d).0 + (j - i) ≤ (get_or entries j d).0
lines_from entries i j d up less h =
    let e : i + (j - i) ≡ j = omega (arith, less) in
    rw e at (lines_above entries i (j - i) d up (omega (arith, e, h)))

-- what an entry in the middle says of those before it, and of those after it
pub before_middle : (entries : List (ℕ × ℕ)) (l middle : ℕ) (d : ℕ × ℕ) → IsStrictlyIncreasing (map (λ entry. entry.0) entries) →
    middle < length entries → (get_or entries middle d).0 < l → (i : ℕ) (e : ℕ × ℕ) → i < middle + 1 → (get_or entries i e).0 < l
before_middle entries l middle d up there less i e h =
    let same : (get_or entries middle d).0 ≡ (get_or entries middle e).0 = ap (λ (x : ℕ × ℕ). x.0) (get_or_default entries middle d e there) in
    let order : (get_or entries i e).0 + (middle - i) ≤ (get_or entries middle e).0 = lines_from entries i middle e up (omega (arith, h)) there in
    omega (arith, same, order, less)

pub from_middle : (entries : List (ℕ × ℕ)) (l middle : ℕ) (d : ℕ × ℕ) → IsStrictlyIncreasing (map (λ entry. entry.0) entries) →
    l ≤ (get_or entries middle d).0 → (i : ℕ) (e : ℕ × ℕ) → middle ≤ i → i < length entries → l ≤ (get_or entries i e).0
from_middle entries l middle d up above i e h there =
    let same : (get_or entries middle d).0 ≡ (get_or entries middle e).0 =
    ap (λ (x : ℕ × ℕ). x.0) (get_or_default entries middle d e (omega (arith, h, there))) in
    let order : (get_or entries middle e).0 + (i - middle) ≤ (get_or entries i e).0 = lines_from entries middle i e up h there in
    omega (arith, same, order, above)

-- a line that has an entry, and one that has none
rest_place : (e : ℕ × ℕ) (entries : List (ℕ × ℕ)) (l at : ℕ) → IsPlace (e ∷ entries) l (suc at) → IsPlace entries l at
rest_place e entries l at p = record {
  within = omega (arith, p.within);
  below = λ i d h. p.below (suc i) d (omega (arith, h));
  above = λ i d h b. p.above (suc i) d (omega (arith, h)) (omega (arith, b));
}

pub number_found : (entries : List (ℕ × ℕ)) (l at : ℕ) (d : ℕ × ℕ) → IsPlace entries l at → at < length entries →
    (get_or entries at d).0 ≡ l → number_in entries l ≡ (get_or entries at d).1
number_found [] l at d p h e = absurd (omega (arith, h))
number_found (x ∷ entries) l zero d p h e = let same : (x.0 == l) ≡ true = grind (arith, nat_tests, e) in rw same refl
number_found (x ∷ entries) l (suc at) d p h e =
    let less : x.0 < l = p.below 0 d (omega arith) in
    let other : (x.0 == l) ≡ false = grind (arith, nat_tests, less) in
    rw other (number_found entries l at d (rest_place x entries l at p) (omega (arith, h)) e)

none_there : (entries : List (ℕ × ℕ)) (l : ℕ) → ((i : ℕ) (d : ℕ × ℕ) → i < length entries → (get_or entries i d).0 ≢ l) → number_in entries l ≡ 0
none_there [] l apart = refl
none_there (x ∷ entries) l apart =
    let other : (x.0 == l) ≡ false = grind (arith, nat_tests, apart 0 x (omega arith)) in
    rw other (none_there entries l (λ i d h. apart (suc i) d (omega (arith, h))))

pub number_past : (entries : List (ℕ × ℕ)) (l at : ℕ) → IsPlace entries l at → length entries ≤ at → number_in entries l ≡ 0
number_past entries l at p last = none_there entries l (λ i d h. omega (arith, p.below i d (omega (arith, h, last))))

pub number_other : (entries : List (ℕ × ℕ)) (l at : ℕ) (d : ℕ × ℕ) → IsStrictlyIncreasing (map (λ entry. entry.0) entries) → IsPlace entries l at →
    at < length entries → (get_or entries at d).0 ≢ l → number_in entries l ≡ 0
number_other entries l at d up p there apart =
    none_there entries l (λ i e h. elim (cases_Bool (nat_lt i at)) [
      | inl low ↦ let below : i < at = grind (arith, nat_tests, low) in omega (arith, p.below i e below)
      | inr not_low ↦
          let high : at ≤ i = grind (arith, nat_tests, not_low) in
          let same : (get_or entries at d).0 ≡ (get_or entries at e).0 = ap (λ (x : ℕ × ℕ). x.0) (get_or_default entries at d e there) in
          let first : l ≤ (get_or entries at e).0 = p.above at e (omega arith) there in
          let order : (get_or entries at e).0 + (i - at) ≤ (get_or entries i e).0 = lines_from entries at i e up high h in
          omega (arith, same, first, order, apart)
    ])

-- a line of the cuts' image, by the events that the cuts were made from
pub cut_line : (start : List (List ℕ)) (events : List Event) (view : CutsView) (cut : List (ℕ × ℕ)) (l number : ℕ) (first bytes : List ℕ) →
    ◌≡◌ {A = CutsView} (record { start = start; steps = history events }) view → l < length start →
    number ≡ number_in cut l → first ≡ line_at start l → bytes ≡ line_after first l number (history events) →
    bytes ≡ line_at (image view.start (number_in cut) view.steps) l
cut_line start events view cut l number first bytes same there n f b =
    subst (λ (v : CutsView). bytes ≡ line_at (image v.start (number_in cut) v.steps) l) same (
    b
    ∙ ap (λ (x : List ℕ). line_after x l number (history events)) f
    ∙ ap (λ (k : ℕ). line_after (line_at start l) l k (history events)) n
    ∙ sym (image_line start (number_in cut) (history events) l [] [] there))
