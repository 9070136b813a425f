-- The lists of a line, one event further.
use Rattle.std.proofs.Common.{◌≡◌, ℕ, ◌+◌, ◌-◌, ◌%◌, ◌<◌, ◌≤◌, ◌==◌, nat_lt, false, List, [], ◌∷◌, ◌++◌, length, get_or, inl, inr, refl, ap, ◌∙◌, sym, subst, arith}
use Rattle.std.specs.Prelude.{max}
use Rattle.std.proofs.lemmas.Bool.{cases_Bool}
use Rattle.std.proofs.lemmas.Bool.Decides.{nat_tests}
use Rattle.std.proofs.lemmas.Grind.{common_steps}
use Rattle.store_trace.proofs.Images.{line_after_none, line_after_store}
use Rattle.store_trace.specs.Floor.{floor}
use Rattle.store_trace.specs.Image.{line_after}
use Rattle.store_trace.specs.Stores.{stores}
use Rattle.store_trace.specs.declared.crash_model.step.PersistenceStep.{PersistenceStep}
use Rattle.store_trace.specs.declared.crash_model.step.PersistenceStep.TheVariants as step
use Rattle.store_trace.specs.TraceView.{IsWidth}
use Rattle.word_bits.specs.Bytes.{stored}
use Rattle.crash_image.proofs.Places.{place_end, place_pushed}
use Rattle.crash_image.specs.Lines.{AreRaises, AreStores, IsFloorAt, IsPlace, bytes_before, floor_before, last_floor, raise_event, raised_to, store_event}
use Rattle.crash_image.specs.declared.trace_index.line.Raise.{Raise}
use Rattle.crash_image.specs.declared.trace_index.line.StoredLine.{StoredLine}

pub aligned_fits : (offset width : ℕ) → IsWidth width → offset % width ≡ 0 → offset < 64 → (width ≤ 8) × (offset + width ≤ 64)
aligned_fits offset width w a h = (grind (arith, w), grind (arith, w, a))

-- an element of a list that is one longer
at_front : {X : Type 0} (xs : List X) (x : X) (i : ℕ) (d : X) → i < length xs → get_or (xs ++ x ∷ []) i d ≡ get_or xs i d
at_front xs x i d h = grind (arith, common_steps, h)

at_last : {X : Type 0} (xs : List X) (x : X) (i : ℕ) (d : X) → i ≡ length xs → get_or (xs ++ x ∷ []) i d ≡ x
at_last xs x i d h = grind (arith, common_steps, h)

-- the places up to event n, and the one past it
places_more : {X : Type 0} (event : X → ℕ) (xs : List X) (n : ℕ) (count : ℕ → ℕ) → ((m : ℕ) → m ≤ n → IsPlace event xs m (count m)) →
    ((i : ℕ) (d : X) → i < length xs → event (get_or xs i d) < n + 1) → count (n + 1) ≡ length xs →
    (m : ℕ) → m ≤ n + 1 → IsPlace event xs m (count m)
places_more event xs n count before early all m h = elim (cases_Bool (nat_lt n m)) [
  | inl past ↦
      let e : n + 1 ≡ m = grind (arith, nat_tests, past, h) in
      let here : IsPlace event xs (n + 1) (count (n + 1)) = rw all (place_end event xs (n + 1) early) in
      subst (λ (k : ℕ). IsPlace event xs k (count k)) e here
  | inr at ↦ before m (grind (arith, nat_tests, at))
]

-- an event that is no store of the line
pub stores_stay : (start : List ℕ) (l : ℕ) (past : ℕ → List PersistenceStep) (n : ℕ) (made : List StoredLine) →
    stores l (past (n + 1)) ≡ stores l (past n) → ((k : ℕ) → line_after start l k (past (n + 1)) ≡ line_after start l k (past n)) →
    AreStores start l past n made → AreStores start l past (n + 1) made
stores_stay start l past n made same bytes s =
    let early : (i : ℕ) (d : StoredLine) → i < length made → store_event (get_or made i d) < n + 1 = λ i d h. omega (arith, s.early i d h) in
    record {
      count = s.count ∙ sym same;
      few = omega (arith, s.few);
      early = early;
      place = places_more store_event made n (λ m. stores l (past m)) s.place early (same ∙ sym s.count);
      bytes = λ i d h. s.bytes i d h ∙ sym (bytes (i + 1));
    }

-- the bytes after all its stores
bytes_all : (start : List ℕ) (l : ℕ) (past : ℕ → List PersistenceStep) (n : ℕ) (made : List StoredLine) → AreStores start l past n made →
    bytes_before start made (length made) ≡ line_after start l (stores l (past n)) (past n)
bytes_all start l past n made s = elim (cases_Bool (length made == 0)) [
  | inl none ↦ rw none (
      let e : stores l (past n) ≡ 0 = grind (arith, nat_tests, none, s.count) in
      rw e (sym (line_after_none start l (past n))))
  | inr some ↦ rw some (
      let h : length made - 1 < length made = grind (arith, nat_tests, some) in
      let e : length made - 1 + 1 ≡ stores l (past n) = omega (arith, h, s.count) in
      rw (← e) (s.bytes (length made - 1) (record { event = 0; bytes = [] }) h))
]

-- a store of the line
pub stores_pushed : (start : List ℕ) (l o w v : ℕ) (past : ℕ → List PersistenceStep) (n : ℕ) (made : List StoredLine) →
    past (n + 1) ≡ step.Store l o w v ∷ past n → AreStores start l past n made →
    AreStores start l past (n + 1)
    (made ++ record { event = n; bytes = stored (bytes_before start made (length made)) o w v } ∷ [])
stores_pushed start l o w v past n made e s =
    let new : StoredLine = record { event = n; bytes = stored (bytes_before start made (length made)) o w v } in
    let len : length (made ++ new ∷ []) ≡ length made + 1 = grind (arith, common_steps) in
    let more : stores l (past (n + 1)) ≡ stores l (past n) + 1 = rw e (grind (arith, nat_tests)) in
    let early : (i : ℕ) (d : StoredLine) → i < length (made ++ new ∷ []) → store_event (get_or (made ++ new ∷ []) i d) < n + 1 =
    λ i d h. elim (cases_Bool (nat_lt i (length made))) [
      | inl low ↦
          let b : i < length made = grind (arith, nat_tests, low) in
          rw (at_front made new i d b) (omega (arith, s.early i d b))
      | inr high ↦
          let b : i ≡ length made = grind (arith, nat_tests, high, len, h) in
          rw (at_last made new i d b) (omega arith)
    ] in
    record {
      count = omega (arith, len, more, s.count);
      few = omega (arith, len, s.few);
      early = early;
      place = places_more store_event (made ++ new ∷ []) n (λ m. stores l (past m))
          (λ m h. place_pushed store_event made new m (stores l (past m)) h (s.place m h)) early (omega (arith, len, more, s.count));
      bytes = λ i d h. elim (cases_Bool (nat_lt i (length made))) [
        | inl low ↦
            let b : i < length made = grind (arith, nat_tests, low) in
            let c : i < stores l (past n) = omega (arith, b, s.count) in
            rw (at_front made new i d b) (rw e (s.bytes i d b ∙ grind (arith, nat_tests, c)))
        | inr high ↦
            let b : i ≡ length made = grind (arith, nat_tests, high, len, h) in
            let c : stores l (past n) + 1 ≡ i + 1 = omega (arith, b, s.count) in
            let q : List PersistenceStep = step.Store l o w v ∷ past n in
            let same : stored (bytes_before start made (length made)) o w v ≡ line_after start l (i + 1) (past (n + 1)) =
            ap (λ (bytes : List ℕ). stored bytes o w v) (bytes_all start l past n made s) ∙ sym (line_after_store start l o w v (past n))
            ∙ ap (λ (k : ℕ). line_after start l k q) c ∙ ap (λ (p : List PersistenceStep). line_after start l (i + 1) p) (sym e) in
            rw (at_last made new i d b) same
      ];
    }

-- an event after which the floor is the last one of the raises
pub raises_more : (l : ℕ) (past : ℕ → List PersistenceStep) (n : ℕ) (raises : List Raise) → last_floor raises ≡ floor l (past (n + 1)) →
    AreRaises l past n raises → AreRaises l past (n + 1) raises
raises_more l past n raises last r =
    let early : (i : ℕ) (d : Raise) → i < length raises → raise_event (get_or raises i d) < n + 1 = λ i d h. omega (arith, r.early i d h) in
    record {
      early = λ i d h. omega (arith, r.early i d h);
      floors = λ m h. elim (cases_Bool (nat_lt n m)) [
        | inl past_it ↦
            let e : n + 1 ≡ m = grind (arith, nat_tests, past_it, h) in
            let here : IsFloorAt raises (n + 1) (floor l (past (n + 1))) = record {
              count = length raises;
              place = place_end raise_event raises (n + 1) early;
              value = last;
            } in
            subst (λ (k : ℕ). IsFloorAt raises k (floor l (past k))) e here
        | inr at ↦ r.floors m (grind (arith, nat_tests, at))
      ];
    }

-- one raise more, by event n
floor_pushed : (raises : List Raise) (x : Raise) (count : ℕ) → count ≤ length raises → floor_before (raises ++ x ∷ []) count ≡ floor_before raises count
floor_pushed raises x count h = elim (cases_Bool (count == 0)) [
  | inl none ↦ rw none refl
  | inr some ↦ rw some (
      let b : count - 1 < length raises = grind (arith, nat_tests, some, h) in
      rw (at_front raises x (count - 1) (record { event = 0; floor = 0 }) b) refl)
]

raises_pushed : (l : ℕ) (past : ℕ → List PersistenceStep) (n number : ℕ) (raises : List Raise) → AreRaises l past n raises →
    AreRaises l past n (raises ++ record { event = n; floor = number } ∷ [])
raises_pushed l past n number raises r =
    let new : Raise = record { event = n; floor = number } in
    let len : length (raises ++ new ∷ []) ≡ length raises + 1 = grind (arith, common_steps) in
    record {
      early = λ i d h. elim (cases_Bool (nat_lt i (length raises))) [
        | inl low ↦
            let b : i < length raises = grind (arith, nat_tests, low) in
            rw (at_front raises new i d b) (r.early i d b)
        | inr high ↦
            let b : i ≡ length raises = grind (arith, nat_tests, high, len, h) in
            rw (at_last raises new i d b) (omega arith)
      ];
      floors = λ m h.
          let f : IsFloorAt raises m (floor l (past m)) = r.floors m h in
          record {
            count = f.count;
            place = place_pushed raise_event raises new m f.count h f.place;
            value = floor_pushed raises new f.count f.place.within ∙ f.value;
          };
    }

pub raises_raised : (l : ℕ) (past : ℕ → List PersistenceStep) (n number : ℕ) (raises : List Raise) → AreRaises l past n raises →
    AreRaises l past n (raised_to raises n number)
raises_raised l past n number raises r = elim (cases_Bool (nat_lt (last_floor raises) number)) [
  | inl more ↦ rw more (raises_pushed l past n number raises r)
  | inr met ↦ rw met r
]

pub last_raised : (raises : List Raise) (event number : ℕ) → last_floor (raised_to raises event number) ≡ max (last_floor raises) number
last_raised raises event number = elim (cases_Bool (nat_lt (last_floor raises) number)) [
  | inl more ↦ rw more (
      let new : Raise = record { event = event; floor = number } in
      let len : length (raises ++ new ∷ []) ≡ length raises + 1 = grind (arith, common_steps) in
      let at : get_or (raises ++ new ∷ []) (length (raises ++ new ∷ []) - 1) (record { event = 0; floor = 0 }) ≡ new =
      at_last raises new (length (raises ++ new ∷ []) - 1) (record { event = 0; floor = 0 }) (omega (arith, len)) in
      let some : (length (raises ++ new ∷ []) == 0) ≡ false = grind (arith, nat_tests, len) in
      rw some (rw at (grind (arith, nat_tests, more))))
  | inr met ↦ rw met (grind (arith, nat_tests, met))
]
