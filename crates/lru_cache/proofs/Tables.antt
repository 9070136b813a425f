-- The tables of slots, as they are made and after each change.
use Rattle.std.proofs.Common.{◌≡◌, ℕ, zero, suc, ◌+◌, ◌<◌, ◌≤◌, true, false, cond, eqb, inl, inr, List, [], ◌∷◌, ◌++◌, length, replicate, refl, sym, ap, ◌∙◌, arith, slice_index_or, slice_set}
use Rattle.std.proofs.lemmas.Bool.Decides.{nat_tests}
use Rattle.std.proofs.lemmas.Bool.{cases_eq, eq-eqb, ne_eqb}
use Rattle.std.specs.Prelude.{◌==◌, if◌then◌else◌}
use Rattle.std.proofs.lemmas.List.{length-append, length-set, length-replicate, get_or_past, get_or_default}
use Rattle.lru_cache.specs.SlotMap.{SlotMap, IsSlotMap, IsTable, slot_at, line_in, has_slot, no_slots, with_added}
use Rattle.lru_cache.specs.InSlots.{IsBySlot}
use Rattle.lru_cache.proofs.Places.{at_put}

repeated_at : (d n i : ℕ) → slice_index_or (replicate n d) i d ≡ d
repeated_at d zero i = refl
repeated_at d (suc n) zero = refl
repeated_at d (suc n) (suc i) = repeated_at d n i

at_push : (y : ℕ) (xs : List ℕ) (j : ℕ) → slice_index_or (xs ++ y ∷ []) j 0 ≡ cond (eqb j (length xs)) y (slice_index_or xs j 0)
at_push y [] zero = refl
at_push y [] (suc j) = grind (arith, nat_tests)
at_push y (x ∷ xs) zero = grind (arith, nat_tests)
at_push y (x ∷ xs) (suc j) = grind (arith, nat_tests, at_push y xs j)

-- the default put behind a list: nothing else is read
pub default_push : {A : Type 0} (d : A) (xs : List A) (j : ℕ) → slice_index_or (xs ++ d ∷ []) j d ≡ slice_index_or xs j d
default_push d [] zero = refl
default_push d [] (suc j) = refl
default_push d (x ∷ xs) zero = refl
default_push d (x ∷ xs) (suc j) = default_push d xs j

-- a place whose element isn't the default is within the list
pub within : (d : ℕ) (xs : List ℕ) (i : ℕ) → slice_index_or xs i d < d → i < length xs
within d [] i h = absurd (omega arith)
within d (x ∷ xs) zero h = omega arith
within d (x ∷ xs) (suc i) h = omega (arith, within d xs i h)

pub held_below : (s : SlotMap) (line : ℕ) → has_slot s line ≡ true → slot_at s line < length s.lines
held_below s line h = grind (arith, nat_tests)

pub no_slot : (s : SlotMap) (line : ℕ) → has_slot s line ≡ false → length s.lines ≤ slot_at s line
no_slot s line h = grind (arith, nat_tests)

-- a line that has a slot is one of those there are
pub held_there : (s : SlotMap) (line : ℕ) → IsSlotMap s → has_slot s line ≡ true → line < length s.slots
held_there s line sound h = within s.most s.slots line (omega (arith, held_below s line h, sound.few))

pub table_made : (most lines a b : ℕ) → a ≡ most → b ≡ most → IsTable lines (no_slots most lines) [] a b
table_made most lines a b e f =
    let wide : length (replicate lines most) ≡ lines = length-replicate lines most in
    record {
      bounded = sym wide;
      sound = record {
        few = omega arith;
        added = λ line h. absurd (let no = rw (repeated_at most lines line) at h in omega arith);
        line_back = λ line h. absurd (omega arith);
        slot_back = λ slot h. absurd (omega arith);
      };
      stacked = record {
        counted = refl;
        few = omega arith;
        low = λ k h. absurd (omega arith);
        empty = λ k h. absurd (omega arith);
        apart = λ j k a b e. absurd (omega arith);
      };
      line_room = e;
      free_room = f;
    }

-- a slot is free where one was added if none was
pub free_seen : (s t : SlotMap) → t ≡ (if s.free == 0 then with_added s else s) → 0 < t.free
free_seen s t e = elim (cases_eq s.free 0) [
  | inl none ↦
      let is : t ≡ with_added s = rw (eq-eqb s.free 0 none) at e in
      omega (arith, ap (λ (m : SlotMap). m.free) is)
  | inr some ↦
      let is : t ≡ s = rw (ne_eqb s.free 0 some) at e in
      omega (arith, ap (λ (m : SlotMap). m.free) is, some)
]

-- the added slot has no line, as if it were past the end
pub line_added : (s : SlotMap) (slot : ℕ) → line_in (with_added s) slot ≡ line_in s slot
line_added s slot = default_push (length s.slots) s.lines slot

module _ (lines : ℕ) (s : SlotMap) (free : List ℕ) (a b : ℕ) (t : IsTable lines s free a b) where
  -- the last of the free slots
  pub last_free : (rest : List ℕ) (slot : ℕ) → free ≡ rest ++ slot ∷ [] →
      (slot < length s.lines) × ((line_in s slot ≡ length s.slots) × ((k : ℕ) → k < length rest → (slice_index_or free k 0 ≡ slice_index_or rest k 0) × (eqb (slice_index_or rest k 0) slot ≡ false)))
  last_free rest slot e =
      let more : length free ≡ length rest + 1 = ap length e ∙ length-append rest (slot ∷ []) in
      let at_free : (j : ℕ) → slice_index_or free j 0 ≡ cond (eqb j (length rest)) slot (slice_index_or rest j 0) = λ j. rw e (at_push slot rest j) in
      let is : slice_index_or free (length rest) 0 ≡ slot = grind (arith, nat_tests, at_free (length rest)) in (
        rw is at (t.stacked.low (length rest) (omega arith)),
        (
          rw is at (t.stacked.empty (length rest) (omega arith)),
          λ k h. (grind (arith, nat_tests, at_free k), grind (arith, nat_tests, at_free k, is, t.stacked.apart k (length rest))),
        ),
      )

  pub table_taken : (line slot fewer : ℕ) (rest : List ℕ) → line < length s.slots → has_slot s line ≡ false → free ≡ rest ++ slot ∷ [] → fewer ≡ length rest →
      IsTable lines (record { most = s.most; slots = slice_set s.slots line slot; lines = slice_set s.lines slot line; free = fewer }) rest a b
  table_taken line slot fewer rest there absent e f =
      let none = no_slot s line absent in
      let taken = last_free rest slot e in
      let low : slot < length s.lines = taken.0 in
      let empty : line_in s slot ≡ length s.slots = taken.1.0 in
      let more : length free ≡ length rest + 1 = ap length e ∙ length-append rest (slot ∷ []) in
      let tall = length-set s.slots line slot in
      let wide = length-set s.lines slot line in
      let at_line : (d j : ℕ) → slice_index_or (slice_set s.slots line slot) j d ≡ cond (eqb j line) slot (slice_index_or s.slots j d) = λ d j. at_put d slot s.slots line j there in
      let at_slot : (d j : ℕ) → slice_index_or (slice_set s.lines slot line) j d ≡ cond (eqb j slot) line (slice_index_or s.lines j d) = λ d j. at_put d line s.lines slot j low in
      record {
        bounded = t.bounded ∙ sym tall;
        sound = record {
          few = rw wide t.sound.few;
          added = λ j h. rw wide (grind (arith, nat_tests, at_line s.most j, t.sound.added j));
          line_back = λ j h. let k = rw wide at h in rw tall (grind (arith, nat_tests, at_line s.most j, at_slot (length s.slots) (slice_index_or (slice_set s.slots line slot) j s.most), t.sound.line_back j, within s.most s.slots j, t.sound.few));
          slot_back = λ k h. let i = rw tall at h in rw tall (grind (arith, nat_tests, at_slot (length s.slots) k, at_line s.most (slice_index_or (slice_set s.lines slot line) k (length s.slots)), t.sound.slot_back k, within (length s.slots) s.lines k));
        };
        stacked = record {
          counted = f;
          few = rw wide (omega (arith, more, t.stacked.few));
          low = λ k h. rw wide (rw (taken.1.1 k h).0 at (t.stacked.low k (omega arith)));
          empty = λ k h. rw tall (grind (arith, nat_tests, at_slot (length s.slots) (slice_index_or rest k 0), rw (taken.1.1 k h).0 at (t.stacked.empty k (omega arith)), (taken.1.1 k h).1));
          apart = λ j k a b e. t.stacked.apart j k (omega arith) (omega arith) ((taken.1.1 j a).0 ∙ e ∙ sym (taken.1.1 k b).0);
        };
        line_room = t.line_room;
        free_room = t.free_room;
      }

  pub table_freed : (line slot fewer : ℕ) → has_slot s line ≡ true → slot ≡ slot_at s line → s.free + 1 ≤ length s.lines → fewer ≡ length free + 1 →
      IsTable lines (record { most = s.most; slots = slice_set s.slots line s.most; lines = slice_set s.lines slot lines; free = fewer }) (free ++ slot ∷ []) a b
  table_freed line slot fewer has is room f =
      let held : slot < length s.lines = rw is (held_below s line has) in
      let back : line_in s slot ≡ line = rw is (t.sound.line_back line (held_below s line has)) in
      let there : line < length s.slots = held_there s line t.sound has in
      let tall = length-set s.slots line s.most in
      let wide = length-set s.lines slot lines in
      let at_line : (d j : ℕ) → slice_index_or (slice_set s.slots line s.most) j d ≡ cond (eqb j line) s.most (slice_index_or s.slots j d) = λ d j. at_put d s.most s.slots line j there in
      let at_slot : (d j : ℕ) → slice_index_or (slice_set s.lines slot lines) j d ≡ cond (eqb j slot) lines (slice_index_or s.lines j d) = λ d j. at_put d lines s.lines slot j held in
      let at_free : (j : ℕ) → slice_index_or (free ++ slot ∷ []) j 0 ≡ cond (eqb j (length free)) slot (slice_index_or free j 0) = λ j. at_push slot free j in
      let more : length (free ++ slot ∷ []) ≡ length free + 1 = length-append free (slot ∷ []) in
      record {
        bounded = t.bounded ∙ sym tall;
        sound = record {
          few = rw wide t.sound.few;
          added = λ j h. rw wide (grind (arith, nat_tests, at_line s.most j, t.sound.added j));
          line_back = λ j h. let k = rw wide at h in rw tall (grind (arith, nat_tests, t.bounded, t.sound.few, at_line s.most j, at_slot (length s.slots) (slice_index_or (slice_set s.slots line s.most) j s.most), t.sound.line_back j));
          slot_back = λ k h. let i = rw tall at h in rw tall (grind (arith, nat_tests, t.bounded, at_slot (length s.slots) k, at_line s.most (slice_index_or (slice_set s.lines slot lines) k (length s.slots)), t.sound.slot_back k));
        };
        stacked = record {
          counted = f ∙ sym more;
          few = rw wide (omega (arith, more, room, t.stacked.counted));
          low = λ k h. rw wide (grind (arith, nat_tests, more, at_free k, t.stacked.low k));
          empty = λ k h. rw tall (grind (arith, nat_tests, t.bounded, more, at_free k, at_slot (length s.slots) (slice_index_or (free ++ slot ∷ []) k 0), t.stacked.empty k));
          apart = λ j k a b e. grind (arith, nat_tests, more, at_free j, at_free k, t.stacked.apart j k, t.stacked.empty j, t.stacked.empty k);
        };
        line_room = t.line_room;
        free_room = t.free_room;
      }

-- a table that stands by the slots stands by as many others
pub by_slots : (s t : SlotMap) (n m : ℕ) → length t.lines ≡ length s.lines → t.most ≡ s.most → IsBySlot s n m → IsBySlot t n m
by_slots s t n m e f by = (by.0 ∙ sym e, by.1 ∙ sym f)

pub ruleset table_steps = (within, get_or_default)
