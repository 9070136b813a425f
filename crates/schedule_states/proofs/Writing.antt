-- A write to a line that is held, or comes to be.
use Rattle.std.proofs.Common.{◌≡◌, ◌≢◌, inl, inr, ℕ, ◌+◌, ◌-◌, ◌*◌, ◌/◌, ◌%◌, ◌<◌, ◌≤◌, nat_le, true, false, List, [], ◌∷◌, ◌++◌, Option, Some, None, length, slice_get, refl, sym, ap, ◌∙◌, subst, arith}
use Rattle.std.specs.Prelude.{IfNone, IsSome}
use Rattle.std.proofs.lemmas.Bool.{cases_eq, cases_lt, le-leb, lt-leb}
use Rattle.std.proofs.lemmas.Bool.Decides.{nat_tests}
use Rattle.word_bits.specs.Bytes.{stored}
use Rattle.line_memory.proofs.Accesses.{cases_store, fault_misaligned, some_width, stored_to_above, stored_to_below, stored_to_in}
use Rattle.line_memory.proofs.Maps.{stored_after, stored_before, stored_within}
use Rattle.line_memory.specs.Lines.{line_at}
use Rattle.line_memory.specs.Memory.{IsWidth, Memory, fault_of, stored_to}
use Rattle.line_memory.specs.declared.MemFault.TheVariants.{Misaligned, Outside}
use Rattle.line_memory.specs.declared.TheConstants.{PERSISTENT_BASE}
use Rattle.store_trace.specs.Image.{line_after}
use Rattle.store_trace.specs.Stores.{stores}
use Rattle.store_trace.specs.declared.crash_model.step.PersistenceStep.{PersistenceStep}
use Rattle.store_trace.specs.declared.crash_model.step.PersistenceStep.TheVariants.{Store, Clean}
use Rattle.schedule_states.proofs.Leaving.{clean_adds, clean_elsewhere, store_elsewhere, store_elsewhere_fenced}
use Rattle.schedule_states.proofs.Showing.{line_held, line_not_held, loads_none, within_line}
use Rattle.schedule_states.specs.LineStates.{IsLine, IsLineState}
use Rattle.schedule_states.specs.Memories.{AreSame, IsLineOf, IsMemoryOf, IsPut, IsStateNow, IsStateOf, TableView, byte_in, memory_over, state_in, steps_of_write}
use Rattle.schedule_states.specs.StartLines.{LacksLine, ShowsLine, StartView, memory_at}
use Rattle.schedule_states.specs.declared.line_state.Content.{Content}
use Rattle.schedule_states.specs.declared.held_lines.HeldLine.{HeldLine}
use Rattle.schedule_states.specs.declared.line_state.LineState.{LineState}

-- a store to another line
line_elsewhere : (start : List ℕ) (l m o w v : ℕ) (p : List PersistenceStep) → m ≢ l →
    line_after start l (stores l p) p ≡ line_after start l (stores l (Store m o w v ∷ p)) (Store m o w v ∷ p)
line_elsewhere start l m o w v p other = grind (arith, nat_tests, other)

pub elsewhere_store : (start : List ℕ) (l m o w v : ℕ) (p : List PersistenceStep) (current : List ℕ) (others : List Content) → m ≢ l →
    IsLine start l p current others → IsLine start l (Store m o w v ∷ p) current others
elsewhere_store start l m o w v p current others other is = record {
  bytes = is.bytes ∙ line_elsewhere start l m o w v p other;
  apart = is.apart;
  distinct = is.distinct;
  now = λ bytes. (
    λ c. (is.now bytes).0 ((store_elsewhere start l m o w v p bytes other).0 c),
    λ has. (store_elsewhere start l m o w v p bytes other).1 ((is.now bytes).1 has),
  );
  fenced = λ h bytes few. (
    λ c. (is.fenced h bytes few).0 ((store_elsewhere_fenced start l m h o w v p bytes other).0 c),
    λ has. (store_elsewhere_fenced start l m h o w v p bytes other).1 ((is.fenced h bytes few).1 has),
  );
}

pub elsewhere_clean : (start : List ℕ) (l g m : ℕ) (p : List PersistenceStep) (current : List ℕ) (others : List Content) → m ≢ l →
    IsLine start l p current others → IsLine start l (Clean g m ∷ p) current others
elsewhere_clean start l g m p current others other is = record {
  bytes = is.bytes;
  apart = is.apart;
  distinct = is.distinct;
  now = λ bytes. (
    λ c. (is.now bytes).0 ((clean_adds start l g m p bytes).0 c),
    λ has. (clean_adds start l g m p bytes).1 ((is.now bytes).1 has),
  );
  fenced = λ h bytes few. (
    λ c. (is.fenced h bytes few).0 ((clean_elsewhere start l h g m p bytes (inr other)).0 c),
    λ has. (clean_elsewhere start l h g m p bytes (inr other)).1 ((is.fenced h bytes few).1 has),
  );
}

pub elsewhere_of : (start : List ℕ) (l m o w v : ℕ) (p : List PersistenceStep) (held : Option LineState) → m ≢ l →
    IsLineOf start l p held → IsLineOf start l (Store m o w v ∷ p) held
elsewhere_of start l m o w v p (Some s) other is = elsewhere_store start l m o w v p s.bytes s.others.items other is
elsewhere_of start l m o w v p None other is = elsewhere_store start l m o w v p start [] other is

line_same : (start : List ℕ) (l : ℕ) (p : List PersistenceStep) (one other : List ℕ) (ones others : List Content) → one ≡ other → ones ≡ others →
    IsLine start l p one ones → IsLine start l p other others
line_same start l p one other ones others bytes same is =
    subst (λ (xs : List ℕ). IsLine start l p xs others) bytes (subst (λ (cs : List Content). IsLine start l p one cs) same is)

-- a line that has a state by what is held
pub same_state : (start : List ℕ) (l : ℕ) (p : List PersistenceStep) (one other : LineState) → AreSame one other → IsLineState start l p one → IsLineState start l p other
same_state start l p one other same is = line_same start l p one.bytes other.bytes one.others.items other.others.items (sym same.bytes) (sym same.others) is

pub state_put : (start : StartView) (l : ℕ) (p : List PersistenceStep) (state : LineState) (held : Option LineState) → IsStateOf start (16777216 + l) state held →
    IsLineState (line_at start.medium l) l p state → IsLineOf (line_at start.medium l) l p held
state_put start l p state (Some s) same is = same_state (line_at start.medium l) l p state s same is
state_put start l p state None same is = line_same (line_at start.medium l) l p state.bytes (line_at start.medium l) state.others.items [] (same.medium l refl) same.certain is

pub shown_put : (start : StartView) (line : ℕ) (state : LineState) (held : Option LineState) (offset : ℕ) → offset < 64 → IsStateOf start line state held →
    byte_in held (memory_at start) (64 * line + offset) ≡ slice_get state.bytes offset
shown_put start line state (Some s) offset h same =
    let place : (64 * line + offset) % 64 ≡ offset = omega arith in
    rw (place, same.bytes) refl
shown_put start line state None offset h same = same.shown offset h

-- memory after a line is put
pub put_shows : (old new : TableView) (held lines : List HeldLine) (line : ℕ) (state : LineState) → IsPut old new held line state lines →
    ShowsLine (memory_over new.states lines (memory_at new.start)) line state.bytes
unfolding memory_over
put_shows old new held lines line state put offset h =
    let at : (64 * line + offset) / 64 ≡ line = omega arith in
    rw at (shown_put new.start line state (state_in new.states lines line) offset h put.here)

pub put_leaves : (old new : TableView) (held lines : List HeldLine) (line : ℕ) (state : LineState) (a : ℕ) → new.start ≡ old.start →
    IsPut old new held line state lines → a / 64 ≢ line →
    memory_over new.states lines (memory_at new.start) a ≡ memory_over old.states held (memory_at old.start) a
unfolding memory_over
put_leaves old new held lines line state a same put other =
    ap (λ (s : Option LineState). byte_in s (memory_at new.start) a) (put.others (a / 64) other)
    ∙ ap (λ (s : StartView). byte_in (state_in old.states held (a / 64)) (memory_at s) a) same

-- a write within a line
write_shown : (old new : Memory) (bytes : List ℕ) (line at n v : ℕ) → at + n ≤ 64 → length bytes ≡ 64 → ShowsLine old line bytes →
    ShowsLine new line (stored bytes at n v) → ((a : ℕ) → a / 64 ≢ line → new a ≡ old a) →
    (a : ℕ) → new a ≡ stored_to old (64 * line + at) n v a
write_shown old new bytes line at n v fits long was becomes others a = elim (cases_lt a (64 * line)) [
  | inl below ↦
      let other : a / 64 ≢ line = omega arith in
      others a other ∙ sym (stored_to_below old (64 * line + at) n v a (omega arith))
  | inr from ↦ elim (cases_lt a (64 * line + 64)) [
    | inr above ↦
        let other : a / 64 ≢ line = omega arith in
        others a other ∙ sym (stored_to_above old (64 * line + at) n v a (omega arith))
    | inl here ↦
        let j : ℕ = a - 64 * line in
        let e : a ≡ 64 * line + j = omega arith in
        let low : j < 64 = omega arith in
        rw e (becomes j low ∙ elim (cases_store at n j) [
          | inl before ↦
              stored_before bytes at n v j (omega arith) before ∙ sym (was j low)
              ∙ sym (stored_to_below old (64 * line + at) n v (64 * line + j) (omega arith))
          | inr (inl (k, h, q)) ↦
              let r : 64 * line + (at + k) ≡ 64 * line + at + k = omega arith in
              rw (q, r) (stored_within bytes at n v k (omega arith) h ∙ sym (stored_to_in old (64 * line + at) n v k h))
          | inr (inr (k, q)) ↦
              let byte : slice_get (stored bytes at n v) j ≡ slice_get bytes j = rw q (stored_after bytes at n v k (omega arith)) in
              byte ∙ sym (was j low) ∙ sym (stored_to_above old (64 * line + at) n v (64 * line + j) (omega arith))
        ])
  ]
]

-- an access that can be made
pub aligned_access : (memory : Memory) (address width : ℕ) → fault_of memory address width ≡ None → address % width ≡ 0
aligned_access memory address width none = elim (cases_eq (address % width) 0) [
  | inl is ↦ is
  | inr other ↦ let both : None ≡ Some Misaligned = sym none ∙ fault_misaligned memory address width other in cc
]

pub line_there : (memory : Memory) (address width : ℕ) → IsWidth width → fault_of memory address width ≡ None → ¬ LacksLine memory (address / 64)
line_there memory address width is none lacks =
    let both : None ≡ Some Outside = sym none ∙ loads_none memory address width is (aligned_access memory address width none) lacks in
    cc

pub some_unless : {X A : Type 0} (o : Option X) → IfNone o A → ¬ A → IsSome o
some_unless (Some x) h n = refl
some_unless None h n = absurd (n h)

pub lacks_both : (table : TableView) (held : List HeldLine) (line : ℕ) → state_in table.states held line ≡ None → LacksLine (memory_at table.start) line →
    LacksLine (memory_over table.states held (memory_at table.start)) line
lacks_both table held line none lacks offset h = line_not_held table.states held (memory_at table.start) line offset h none ∙ lacks offset h

pub state_copied : (table : TableView) (held : List HeldLine) (line : ℕ) (state copy : LineState) → state_in table.states held line ≡ Some state →
    length state.bytes ≡ 64 → copy.bytes ≡ state.bytes → copy.others.items ≡ state.others.items → IsStateNow table held line copy
state_copied table held line state copy found long bytes others = record {
  shown = λ offset h. line_held table.states held (memory_at table.start) line state found offset h ∙ ap (λ (xs : List ℕ). slice_get xs offset) (sym bytes);
  whole = rw bytes long;
  is = λ l at p is. same_state (line_at table.start.medium l) l p state copy (record { bytes = bytes; others = others })
      (subst (λ (held : Option LineState). IsLineOf (line_at table.start.medium l) l p held) found is);
}

pub state_started : (table : TableView) (held : List HeldLine) (line : ℕ) (bytes : List ℕ) (state : LineState) → state_in table.states held line ≡ None →
    length bytes ≡ 64 → ShowsLine (memory_at table.start) line bytes → ((l : ℕ) → line ≡ 16777216 + l → bytes ≡ line_at table.start.medium l) →
    state.bytes ≡ bytes → state.others.items ≡ [] → IsStateNow table held line state
state_started table held line bytes state none long shown medium is certain = record {
  shown = λ offset h. line_not_held table.states held (memory_at table.start) line offset h none ∙ shown offset h ∙ ap (λ (xs : List ℕ). slice_get xs offset) (sym is);
  whole = rw is long;
  is = λ l at p of.
      let start : IsLineOf (line_at table.start.medium l) l p None = subst (λ (held : Option LineState). IsLineOf (line_at table.start.medium l) l p held) none of in
      line_same (line_at table.start.medium l) l p (line_at table.start.medium l) state.bytes [] state.others.items (sym (is ∙ medium l at)) (sym certain) start;
}

-- the write as a whole
some_less : (width : ℕ) → IsWidth width → width - 1 < width
some_less width is = let some : 0 < width = some_width width is in omega arith

pub write_flat : (old new : TableView) (held lines : List HeldLine) (address width value : ℕ) (state after : LineState) (memory : Memory) →
    new.start ≡ old.start → IsWidth width → address % width ≡ 0 → memory ≡ memory_over old.states held (memory_at old.start) →
    IsStateNow old held (address / 64) state → after.bytes ≡ stored state.bytes (address % 64) width value →
    IsPut old new held (address / 64) after lines →
    (a : ℕ) → stored_to memory address width value a ≡ memory_over new.states lines (memory_at new.start) a
write_flat old new held lines address width value state after memory same is aligned flat now made put a =
    let place : 64 * (address / 64) + address % 64 ≡ address = omega arith in
    let fits : address % 64 + width ≤ 64 =
    let last : address % 64 + (width - 1) < 64 = within_line address width (width - 1) is aligned (some_less width is) in
    let some : 0 < width = some_width width is in omega arith in
    let shown : ShowsLine (memory_over new.states lines (memory_at new.start)) (address / 64) (stored state.bytes (address % 64) width value) =
    λ offset h. put_shows old new held lines (address / 64) after put offset h ∙ ap (λ (xs : List ℕ). slice_get xs offset) made in
    let all = write_shown (memory_over old.states held (memory_at old.start)) (memory_over new.states lines (memory_at new.start)) state.bytes
    (address / 64) (address % 64) width value fits now.whole now.shown shown (λ b other. put_leaves old new held lines (address / 64) after b same put other) a in
    ap (λ (m : Memory). stored_to m address width value a) flat
    ∙ ap (λ (at : ℕ). stored_to (memory_over old.states held (memory_at old.start)) at width value a) (sym place) ∙ sym all

write_line : (old new : TableView) (held lines : List HeldLine) (address width value : ℕ) (state after : LineState) (p : List PersistenceStep) (l : ℕ) →
    new.start ≡ old.start → IsStateNow old held (address / 64) state → IsPut old new held (address / 64) after lines →
    (PERSISTENT_BASE ≤ address → (start : List ℕ) (l : ℕ) (p : List PersistenceStep) → IsLineState start l p state →
    IsLineState start l (Store l (address % 64) width value ∷ p) after) →
    IsLineOf (line_at old.start.medium l) l p (state_in old.states held (16777216 + l)) →
    IsLineOf (line_at new.start.medium l) l (steps_of_write address width value ++ p) (state_in new.states lines (16777216 + l))
write_line old new held lines address width value state after p l same now put line is = elim (cases_lt address PERSISTENT_BASE) [
  | inl low ↦
      let none : nat_le PERSISTENT_BASE address ≡ false = lt-leb PERSISTENT_BASE address low in
      let other : 16777216 + l ≢ address / 64 = omega arith in
      let kept = put.others (16777216 + l) other in
      rw (none, same, kept) is
  | inr high ↦
      let some : nat_le PERSISTENT_BASE address ≡ true = le-leb PERSISTENT_BASE address high in
      let offset : (address - PERSISTENT_BASE) % 64 ≡ address % 64 = omega arith in
      elim (cases_eq ((address - PERSISTENT_BASE) / 64) l) [
        | inl here ↦
            let at : address / 64 ≡ 16777216 + l = omega arith in
            let made : IsLineState (line_at new.start.medium l) l (Store l (address % 64) width value ∷ p) after =
            rw same (line high (line_at old.start.medium l) l p (now.is l at p
            (subst (λ (n : ℕ). IsLineOf (line_at old.start.medium l) l p (state_in old.states held n)) (sym at) is))) in
            let of : IsStateOf new.start (16777216 + l) after (state_in new.states lines (16777216 + l)) =
            subst (λ (n : ℕ). IsStateOf new.start n after (state_in new.states lines n)) at put.here in
            rw (some, offset, here) (state_put new.start l (Store l (address % 64) width value ∷ p) after (state_in new.states lines (16777216 + l)) of made)
        | inr there ↦
            let other : 16777216 + l ≢ address / 64 = omega arith in
            let kept = put.others (16777216 + l) other in
            rw (some, kept, same) (elsewhere_of (line_at old.start.medium l) l ((address - PERSISTENT_BASE) / 64) ((address - PERSISTENT_BASE) % 64) width value p
            (state_in old.states held (16777216 + l)) there is)
      ]
]

pub write_made : (old new : TableView) (held lines : List HeldLine) (address width value : ℕ) (state after : LineState) (memory : Memory) (p : List PersistenceStep) →
    new.start ≡ old.start → IsWidth width → address % width ≡ 0 → IsStateNow old held (address / 64) state →
    after.bytes ≡ stored state.bytes (address % 64) width value →
    (PERSISTENT_BASE ≤ address → (start : List ℕ) (l : ℕ) (p : List PersistenceStep) → IsLineState start l p state →
    IsLineState start l (Store l (address % 64) width value ∷ p) after) →
    IsPut old new held (address / 64) after lines → IsMemoryOf old.start old.states held memory p →
    IsMemoryOf new.start new.states lines (stored_to memory address width value) (steps_of_write address width value ++ p)
write_made old new held lines address width value state after memory p same is aligned now made line put of = record {
  below = put.below;
  flat = λ i a. write_flat old new held lines address width value state after memory same is aligned of.flat now made put a i;
  lines = λ l there. write_line old new held lines address width value state after p l same now put line
      (of.lines l (subst (λ (s : StartView). l < length s.medium) same there));
}
