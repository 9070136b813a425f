-- What the index answers of a line at a moment.
use Rattle.std.proofs.Common.{◌≡◌, ℕ, zero, suc, ◌+◌, ◌-◌, ◌<◌, ◌≤◌, ◌==◌, nat_lt, false, List, [], ◌∷◌, ◌++◌, length, get_or, take, drop, reverse, inl, inr, refl, ap, ◌∙◌, sym, subst, arith}
use Rattle.std.specs.List.{flat_map}
use Rattle.std.proofs.lemmas.Bool.{cases_Bool}
use Rattle.std.proofs.lemmas.Bool.Decides.{nat_tests}
use Rattle.std.proofs.lemmas.Grind.{common_steps, flat_map-append}
use Rattle.std.proofs.lemmas.List.{reverse-append}
use Rattle.store_trace.proofs.Images.{line_after_none}
use Rattle.store_trace.specs.Floor.{floor}
use Rattle.store_trace.specs.Image.{line_after}
use Rattle.store_trace.specs.Stores.{stores}
use Rattle.store_trace.specs.declared.crash_model.step.PersistenceStep.{PersistenceStep}
use Rattle.store_trace.specs.declared.crash_model.step.PersistenceStep.TheVariants as step
use Rattle.line_memory.specs.Lines.{line_at}
use Rattle.store_trace.specs.History.{at_moment, history, steps_of}
use Rattle.store_trace.specs.declared.event.Event.{Event}
use Rattle.crash_image.specs.Lines.{AreLines, IsFloorAt, IsPlace, LineView, bytes_before, floor_before, raise_event, store_event, unstored}
use Rattle.crash_image.specs.declared.trace_index.line.StoredLine.{StoredLine}

pub floor_found : (start : List (List ℕ)) (past : ℕ → List PersistenceStep) (n : ℕ) (lines : List LineView) (l m number : ℕ) (d : LineView) →
    AreLines start past n lines → l < length start → m ≤ n →
    ((k : ℕ) → IsPlace raise_event (get_or lines l d).raises m k → number ≡ floor_before (get_or lines l d).raises k) →
    number ≡ floor l (past m)
floor_found start past n lines l m number d a there le found =
    let f = (a.each l d there).raised.floors m le in
    found f.count f.place ∙ f.value

pub stores_found : (start : List (List ℕ)) (past : ℕ → List PersistenceStep) (n : ℕ) (lines : List LineView) (l m count : ℕ) (d : LineView) →
    AreLines start past n lines → l < length start → m ≤ n →
    ((k : ℕ) → IsPlace store_event (get_or lines l d).stores m k → count ≡ k) →
    count ≡ stores l (past m)
stores_found start past n lines l m count d a there le found = found (stores l (past m)) ((a.each l d there).stored.place m le)

pub stores_count : (start : List (List ℕ)) (past : ℕ → List PersistenceStep) (n : ℕ) (lines : List LineView) (l : ℕ) (d : LineView) →
    AreLines start past n lines → l < length start → length (get_or lines l d).stores ≡ stores l (past n)
stores_count start past n lines l d a there = (a.each l d there).stored.count

pub stores_few : (start : List (List ℕ)) (past : ℕ → List PersistenceStep) (n : ℕ) (lines : List LineView) (l : ℕ) (d : LineView) →
    AreLines start past n lines → l < length start → length (get_or lines l d).stores ≤ n
stores_few start past n lines l d a there = (a.each l d there).stored.few

pub bytes_found : (start : List (List ℕ)) (past : ℕ → List PersistenceStep) (n : ℕ) (lines : List LineView) (l number : ℕ) (d : LineView) →
    AreLines start past n lines → l < length start → number ≤ stores l (past n) →
    bytes_before (line_at start l) (get_or lines l d).stores number ≡ line_after (line_at start l) l number (past n)
bytes_found start past n lines l zero d a there le = sym (line_after_none (line_at start l) l (past n))
bytes_found start past n lines l (suc k) d a there le =
    let s = (a.each l d there).stored in
    let lt : k < length (get_or lines l d).stores = omega (arith, s.count, le) in
    let none : StoredLine = record { event = 0; bytes = [] } in
    let one : k + 1 ≡ suc k = omega arith in
    let less : suc k - 1 ≡ k = omega arith in
    let same : (suc k == 0) ≡ false = grind (arith, nat_tests) in
    rw (same, less) (subst (λ (x : ℕ). (get_or (get_or lines l d).stores k none).bytes ≡ line_after (line_at start l) l x (past n)) one (s.bytes k none lt))

-- a line that is never stored to
pub stores_none : (start : List (List ℕ)) (past : ℕ → List PersistenceStep) (n : ℕ) (lines : List LineView) (l m : ℕ) →
    AreLines start past n lines → l < length start → m ≤ n → get_or lines l unstored ≡ unstored → 0 ≡ stores l (past m)
stores_none start past n lines l m a there le none =
    let place : IsPlace store_event unstored.stores m (stores l (past m)) =
    subst (λ (line : LineView). IsPlace store_event line.stores m (stores l (past m))) none ((a.each l unstored there).stored.place m le) in
    omega (arith, place.within)

pub floor_none : (start : List (List ℕ)) (past : ℕ → List PersistenceStep) (n : ℕ) (lines : List LineView) (l m : ℕ) →
    AreLines start past n lines → l < length start → m ≤ n → get_or lines l unstored ≡ unstored → 0 ≡ floor l (past m)
floor_none start past n lines l m a there le none =
    let f : IsFloorAt unstored.raises m (floor l (past m)) =
    subst (λ (line : LineView). IsFloorAt line.raises m (floor l (past m))) none ((a.each l unstored there).raised.floors m le) in
    let first : f.count ≡ 0 = omega (arith, f.place.within) in
    sym (ap (floor_before unstored.raises) first) ∙ f.value

pub bytes_none : (start : List (List ℕ)) (past : ℕ → List PersistenceStep) (n : ℕ) (lines : List LineView) (l number : ℕ) →
    AreLines start past n lines → l < length start → number ≤ stores l (past n) → get_or lines l unstored ≡ unstored →
    line_at start l ≡ line_after (line_at start l) l number (past n)
bytes_none start past n lines l number a there le none =
    let first : number ≡ 0 = omega (arith, le, stores_none start past n lines l n a there (omega arith) none) in
    rw first (sym (line_after_none (line_at start l) l (past n)))

-- once the line has its stores, the further events leave it
stores_more : (l : ℕ) (q p : List PersistenceStep) → stores l p ≤ stores l (q ++ p)
stores_more l [] p = omega arith
stores_more l (step.Store m o w v ∷ q) p = grind (arith, nat_tests, stores_more l q p)
stores_more l (step.Clean h m ∷ q) p = stores_more l q p
stores_more l (step.Fence h ∷ q) p = stores_more l q p
stores_more l (step.Evict m ∷ q) p = stores_more l q p

further_steps : (start : List ℕ) (l k : ℕ) (q p : List PersistenceStep) → k ≤ stores l p →
    line_after start l k (q ++ p) ≡ line_after start l k p
further_steps start l k [] p done = refl
further_steps start l k (step.Store m o w v ∷ q) p done =
    let enough : nat_lt (stores l (q ++ p)) k ≡ false = grind (arith, nat_tests, done, stores_more l q p) in
    let rest : line_after start l k (q ++ p) ≡ line_after start l k p = further_steps start l k q p done in
    elim (cases_Bool (m == l)) [
      | inl same ↦ rw (same, enough) rest
      | inr other ↦ rw other rest
    ]
further_steps start l k (step.Clean h m ∷ q) p done = further_steps start l k q p done
further_steps start l k (step.Fence h ∷ q) p done = further_steps start l k q p done
further_steps start l k (step.Evict m ∷ q) p done = further_steps start l k q p done

history_append : (before after : List Event) → history (before ++ after) ≡ history after ++ history before
history_append before after =
    ap (λ (es : List Event). flat_map steps_of es) (reverse-append before after)
    ∙ flat_map-append steps_of (reverse after) (reverse before)

-- a line after stores that a moment has is so at every later moment
pub line_at_moment : (start : List ℕ) (l k m : ℕ) (events : List Event) → k ≤ stores l (at_moment events m) →
    line_after start l k (history events) ≡ line_after start l k (at_moment events m)
line_at_moment start l k m events done =
    let parts : take m events ++ drop m events ≡ events = grind (arith, common_steps) in
    let split : history events ≡ history (drop m events) ++ history (take m events) =
    ap (λ (es : List Event). history es) (sym parts) ∙ history_append (take m events) (drop m events) in
    ap (λ (p : List PersistenceStep). line_after start l k p) split
    ∙ further_steps start l k (history (drop m events)) (history (take m events)) done

-- all events are those of the last moment
pub last_moment : (events : List Event) → at_moment events (length events) ≡ history events
last_moment events = let e : take (length events) events ≡ events = grind (arith, common_steps) in ap (λ (es : List Event). history es) e
