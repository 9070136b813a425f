-- A clean of a line, and a fence of all.
use Rattle.std.proofs.Common.{◌≡◌, ◌≢◌, ◌⊎◌, inl, inr, ℕ, zero, suc, ◌+◌, ◌-◌, ◌*◌, ◌/◌, ◌%◌, ◌<◌, ◌≤◌, ◌==◌, nat_le, true, false, List, [], ◌∷◌, ◌++◌, Option, Some, None, take, length, slice_get, slice_index_or, refl, sym, ap, ◌∙◌, subst, arith}
use Rattle.std.specs.Prelude.{filter}
use Rattle.std.proofs.lemmas.Bool.{cases_Bool, cases_eq, le-leb, lt-leb}
use Rattle.std.proofs.lemmas.Bool.Decides.{nat_tests}
use Rattle.std.proofs.lemmas.List.{take_all}
use Rattle.line_memory.specs.Lines.{line_at}
use Rattle.line_memory.specs.Memory.{Memory}
use Rattle.line_memory.specs.declared.TheConstants.{PERSISTENT_BASE}
use Rattle.store_trace.specs.declared.crash_model.step.PersistenceStep.{PersistenceStep}
use Rattle.store_trace.specs.declared.crash_model.step.PersistenceStep.TheVariants.{Clean, Fence}
use Rattle.schedule_states.proofs.Putting.{state_kept}
use Rattle.schedule_states.proofs.Showing.{line_held}
use Rattle.schedule_states.proofs.Stepping.{line_cleaned, line_fenced, line_of}
use Rattle.schedule_states.proofs.Writing.{elsewhere_clean, put_leaves, put_shows, shown_put, state_put}
use Rattle.schedule_states.specs.HeldLines.{AreBelow, number_of}
use Rattle.schedule_states.specs.LineStates.{IsLineState, stays_after}
use Rattle.schedule_states.specs.Memories.{AreLinesAfter, AreLinesSoFar, IsFencedAt, IsLineAfter, IsLineOf, IsMemoryOf, IsPut, IsStateOf, TableView, byte_in, memory_over, state_in, steps_of_clean}
use Rattle.schedule_states.specs.Numbers.{AreKept}
use Rattle.schedule_states.specs.StartLines.{StartView, memory_at}
use Rattle.schedule_states.specs.declared.held_lines.HeldLine.{HeldLine}
use Rattle.schedule_states.specs.declared.line_state.LineState.{LineState}

-- a line that is as it was at the start
pub none_cleaned : (start : List ℕ) (l g : ℕ) (p : List PersistenceStep) → IsLineOf start l p None → IsLineOf start l (Clean g l ∷ p) None
none_cleaned start l g p is = line_cleaned start l g p (record { bytes = start; others = [] }) (record { bytes = start; others = [] }) is refl refl

pub none_fenced : (start : List ℕ) (l g : ℕ) (p : List PersistenceStep) → g < 8 → IsLineOf start l p None → IsLineOf start l (Fence g ∷ p) None
none_fenced start l g p few is = line_fenced start l g p (record { bytes = start; others = [] }) (record { bytes = start; others = [] }) few is refl refl

clean_of : (start : List ℕ) (l g m : ℕ) (p : List PersistenceStep) (held : Option LineState) → m ≢ l → IsLineOf start l p held → IsLineOf start l (Clean g m ∷ p) held
clean_of start l g m p (Some s) other is = elsewhere_clean start l g m p s.bytes s.others.items other is
clean_of start l g m p None other is = elsewhere_clean start l g m p start [] other is

-- a clean
clean_line : (old new : TableView) (held lines : List HeldLine) (hart address : ℕ) (state after : LineState) (p : List PersistenceStep) (l : ℕ) →
    new.start ≡ old.start → PERSISTENT_BASE ≤ address → state_in old.states held (address / 64) ≡ Some state → IsPut old new held (address / 64) after lines →
    ((start : List ℕ) (l : ℕ) (p : List PersistenceStep) → IsLineState start l p state → IsLineState start l (Clean hart l ∷ p) after) →
    IsLineOf (line_at old.start.medium l) l p (state_in old.states held (16777216 + l)) →
    IsLineOf (line_at new.start.medium l) l (steps_of_clean hart address ++ p) (state_in new.states lines (16777216 + l))
clean_line old new held lines hart address state after p l same high found put cleaned is =
    let some : nat_le PERSISTENT_BASE address ≡ true = le-leb PERSISTENT_BASE address high in
    elim (cases_eq ((address - PERSISTENT_BASE) / 64) l) [
      | inl here ↦
          let at : address / 64 ≡ 16777216 + l = omega arith in
          let held_now : IsLineOf (line_at old.start.medium l) l p (state_in old.states held (address / 64)) =
          subst (λ (n : ℕ). IsLineOf (line_at old.start.medium l) l p (state_in old.states held n)) (sym at) is in
          let before : IsLineState (line_at old.start.medium l) l p state =
          subst (λ (h : Option LineState). IsLineOf (line_at old.start.medium l) l p h) found held_now in
          let made : IsLineState (line_at new.start.medium l) l (Clean hart l ∷ p) after = rw same (cleaned (line_at old.start.medium l) l p before) in
          let of : IsStateOf new.start (16777216 + l) after (state_in new.states lines (16777216 + l)) =
          subst (λ (n : ℕ). IsStateOf new.start n after (state_in new.states lines n)) at put.here in
          rw (some, here) (state_put new.start l (Clean hart l ∷ p) after (state_in new.states lines (16777216 + l)) of made)
      | inr there ↦
          let other : 16777216 + l ≢ address / 64 = omega arith in
          let kept = put.others (16777216 + l) other in
          rw (some, kept, same) (clean_of (line_at old.start.medium l) l hart ((address - PERSISTENT_BASE) / 64) p
          (state_in old.states held (16777216 + l)) there is)
    ]

-- memory stays where a line keeps its bytes
put_same : (old new : TableView) (held lines : List HeldLine) (line : ℕ) (state after : LineState) (a : ℕ) → new.start ≡ old.start →
    state_in old.states held line ≡ Some state → after.bytes ≡ state.bytes → IsPut old new held line after lines →
    memory_over new.states lines (memory_at new.start) a ≡ memory_over old.states held (memory_at old.start) a
put_same old new held lines line state after a same found bytes put = elim (cases_eq (a / 64) line) [
  | inl here ↦
      let place : 64 * line + a % 64 ≡ a = omega arith in
      let now = put_shows old new held lines line after put (a % 64) (omega arith) in
      let was = line_held old.states held (memory_at old.start) line state found (a % 64) (omega arith) in
      rw place at (now ∙ ap (λ (xs : List ℕ). slice_get xs (a % 64)) bytes ∙ sym was)
  | inr there ↦ put_leaves old new held lines line after a same put there
]

pub clean_made : (old new : TableView) (held lines : List HeldLine) (hart address : ℕ) (state after : LineState) (memory : Memory) (p : List PersistenceStep) →
    new.start ≡ old.start → PERSISTENT_BASE ≤ address → state_in old.states held (address / 64) ≡ Some state → after.bytes ≡ state.bytes →
    ((start : List ℕ) (l : ℕ) (p : List PersistenceStep) → IsLineState start l p state → IsLineState start l (Clean hart l ∷ p) after) →
    IsPut old new held (address / 64) after lines → IsMemoryOf old.start old.states held memory p →
    IsMemoryOf new.start new.states lines memory (steps_of_clean hart address ++ p)
clean_made old new held lines hart address state after memory p same high found bytes cleaned put of = record {
  below = put.below;
  flat = of.flat ∙ (λ i a. sym (put_same old new held lines (address / 64) state after a same found bytes put) i);
  lines = λ l there. clean_line old new held lines hart address state after p l same high found put cleaned
      (of.lines l (subst (λ (s : StartView). l < length s.medium) same there));
}

-- a clean of a line that is as it was at the start
none_line : (table : TableView) (held : List HeldLine) (hart address : ℕ) (p : List PersistenceStep) (l : ℕ) → PERSISTENT_BASE ≤ address →
    state_in table.states held (address / 64) ≡ None → IsLineOf (line_at table.start.medium l) l p (state_in table.states held (16777216 + l)) →
    IsLineOf (line_at table.start.medium l) l (steps_of_clean hart address ++ p) (state_in table.states held (16777216 + l))
none_line table held hart address p l high none is =
    let some : nat_le PERSISTENT_BASE address ≡ true = le-leb PERSISTENT_BASE address high in
    elim (cases_eq ((address - PERSISTENT_BASE) / 64) l) [
      | inl here ↦
          let at : address / 64 ≡ 16777216 + l = omega arith in
          let nothing : state_in table.states held (16777216 + l) ≡ None = subst (λ (n : ℕ). state_in table.states held n ≡ None) at none in
          let before : IsLineOf (line_at table.start.medium l) l p None = subst (λ (h : Option LineState). IsLineOf (line_at table.start.medium l) l p h) nothing is in
          let after : IsLineOf (line_at table.start.medium l) l (Clean hart l ∷ p) (state_in table.states held (16777216 + l)) =
          subst (λ (h : Option LineState). IsLineOf (line_at table.start.medium l) l (Clean hart l ∷ p) h) (sym nothing)
          (none_cleaned (line_at table.start.medium l) l hart p before) in
          rw (some, here) after
      | inr there ↦ rw some (clean_of (line_at table.start.medium l) l hart ((address - PERSISTENT_BASE) / 64) p (state_in table.states held (16777216 + l)) there is)
    ]

pub clean_of_none : (table : TableView) (held lines : List HeldLine) (hart address : ℕ) (memory : Memory) (p : List PersistenceStep) → lines ≡ held →
    PERSISTENT_BASE ≤ address → state_in table.states held (address / 64) ≡ None → IsMemoryOf table.start table.states held memory p →
    IsMemoryOf table.start table.states lines memory (steps_of_clean hart address ++ p)
clean_of_none table held lines hart address memory p same high none of = rw same (record {
  below = of.below;
  flat = of.flat;
  lines = λ l there. none_line table held hart address p l high none (of.lines l there);
})

pub clean_elsewhere_made : (table : TableView) (held lines : List HeldLine) (hart address : ℕ) (memory : Memory) (p : List PersistenceStep) → lines ≡ held →
    address < PERSISTENT_BASE → IsMemoryOf table.start table.states held memory p →
    IsMemoryOf table.start table.states lines memory (steps_of_clean hart address ++ p)
clean_elsewhere_made table held lines hart address memory p same low of =
    let none : nat_le PERSISTENT_BASE address ≡ false = lt-leb PERSISTENT_BASE address low in
    rw (same, none) of

-- a fence, line by line
pub fence_none : (start : StartView) (g line : ℕ) → g < 8 → IsLineAfter start (λ l. Fence g ∷ []) line None None
fence_none start g line few = record {
  bytes = λ offset h. refl;
  medium = λ l at p is. none_fenced (line_at start.medium l) l g p few is;
}

pub fence_certain : (start : StartView) (g line : ℕ) (s : LineState) → g < 8 → s.others.items ≡ [] → IsLineAfter start (λ l. Fence g ∷ []) line (Some s) (Some s)
fence_certain start g line s few none =
    let left : s.others.items ≡ filter (stays_after g) s.others.items = rw none refl in record {
      bytes = λ offset h. refl;
      medium = λ l at p is. line_fenced (line_at start.medium l) l g p (line_of s) (line_of s) few is refl left;
    }

pub fence_state : (start : StartView) (g line : ℕ) (state after : LineState) (new : Option LineState) → after.bytes ≡ state.bytes →
    ((start : List ℕ) (l : ℕ) (p : List PersistenceStep) → IsLineState start l p state → IsLineState start l (Fence g ∷ p) after) →
    IsStateOf start line after new → IsLineAfter start (λ l. Fence g ∷ []) line (Some state) new
fence_state start g line state after new bytes fenced of = record {
  bytes = λ offset h.
      let place : (64 * line + offset) % 64 ≡ offset = omega arith in
      let was : byte_in (Some state) (memory_at start) (64 * line + offset) ≡ slice_get state.bytes offset = rw place refl in
      shown_put start line after new offset h of ∙ ap (λ (xs : List ℕ). slice_get xs offset) bytes ∙ sym was;
  medium = λ l at p is. state_put start l (Fence g ∷ p) after new
      (subst (λ (n : ℕ). IsStateOf start n after new) at of) (fenced (line_at start.medium l) l p is);
}

pub fenced_put : (old new : TableView) (g : ℕ) (held before after : List HeldLine) (line : ℕ) (state : LineState) → new.start ≡ old.start →
    ((now : Option LineState) → IsStateOf old.start line state now → IsLineAfter old.start (λ l. Fence g ∷ []) line (state_in old.states held line) now) →
    IsPut old new before line state after → IsFencedAt old new g held before line after
fenced_put old new g held before after line state same fenced put = record {
  below = put.below;
  here = inl (fenced (state_in new.states after line) (subst (λ (s : StartView). IsStateOf s line state (state_in new.states after line)) same put.here));
  others = put.others;
}

pub fenced_kept : (table : TableView) (g : ℕ) (held lines : List HeldLine) (line : ℕ) → AreBelow (length table.states) lines →
    IsLineAfter table.start (λ l. Fence g ∷ []) line (state_in table.states held line) (state_in table.states held line) →
    IsFencedAt table table g held lines line lines
fenced_kept table g held lines line below after = record {
  below = below;
  here = inr (refl, after);
  others = λ l other. refl;
}

-- the lines that are held, one after another
pub so_far_none : (table : TableView) (g : ℕ) (held lines : List HeldLine) → lines ≡ held → AreBelow (length table.states) held →
    AreLinesSoFar table table (λ l. Fence g ∷ []) held 0 lines
so_far_none table g held lines same below = rw same (record {
  start = refl;
  grows = λ n s found. found;
  below = below;
  each = λ line. inr (refl, refl);
})

number_more : (held : List HeldLine) (at : ℕ) (one : HeldLine) (l : ℕ) → at < length held → slice_index_or held at one ≡ one → one.line ≢ l →
    number_of (take (at + 1) held) l ≡ number_of (take at held) l
number_more [] at one l there is other = absurd (omega arith)
number_more (x ∷ held) zero one l there is other =
    let apart : (x.line == l) ≡ false = grind (arith, nat_tests, is, other) in
    rw apart refl
number_more (x ∷ held) (suc at) one l there is other =
    let next : suc at + 1 ≡ suc (at + 1) = omega arith in
    elim (cases_Bool (x.line == l)) [
      | inl mine ↦ rw (next, mine) refl
      | inr apart ↦ rw (next, apart) (number_more held at one l (omega arith) is other)
    ]

pub so_far_more : (old middle new : TableView) (g : ℕ) (held lines after : List HeldLine) (at : ℕ) (one : HeldLine) → at < length held →
    slice_index_or held at one ≡ one → AreBelow (length old.states) held → AreLinesSoFar old middle (λ l. Fence g ∷ []) held at lines →
    new.start ≡ middle.start → AreKept middle.states new.states →
    IsFencedAt middle new g held lines one.line after → AreLinesSoFar old new (λ l. Fence g ∷ []) held (at + 1) after
so_far_more old middle new g held lines after at one there is below far start grows fenced =
    let kept : (l : ℕ) → state_in middle.states held l ≡ state_in old.states held l = λ l. state_kept old.states middle.states held l far.grows below in record {
      start = start ∙ far.start;
      grows = λ n s found. grows n s (far.grows n s found);
      below = fenced.below;
      each = λ l. elim (cases_eq one.line l) [
        | inl here ↦ subst (λ (m : ℕ). IsLineAfter old.start (λ k. Fence g ∷ []) m (state_in old.states held m) (state_in new.states after m)
            ⊎ ((state_in new.states after m ≡ state_in old.states held m) × (number_of (take (at + 1) held) m ≡ None))) here (elim fenced.here [
              | inl made ↦ inl (rw (far.start, kept one.line) at made)
              | inr same ↦ elim (far.each one.line) [
                | inl made ↦ inl (subst (λ (s : Option LineState). IsLineAfter old.start (λ k. Fence g ∷ []) one.line (state_in old.states held one.line) s) (sym same.0) made)
                | inr before ↦
                    let was : IsLineAfter old.start (λ k. Fence g ∷ []) one.line (state_in old.states held one.line) (state_in old.states held one.line) =
                    rw (far.start, kept one.line) at same.1 in
                    inl (subst (λ (s : Option LineState). IsLineAfter old.start (λ k. Fence g ∷ []) one.line (state_in old.states held one.line) s)
                    (sym (same.0 ∙ before.0)) was)
              ]
            ])
        | inr other ↦
            let same : state_in new.states after l ≡ state_in middle.states lines l = fenced.others l (λ e. other (sym e)) in
            elim (far.each l) [
              | inl made ↦ inl (subst (λ (s : Option LineState). IsLineAfter old.start (λ k. Fence g ∷ []) l (state_in old.states held l) s) (sym same) made)
              | inr before ↦ inr (same ∙ before.0, number_more held at one l there is other ∙ before.1)
            ]
      ];
    }

pub so_far_all : (old new : TableView) (g : ℕ) (held lines : List HeldLine) → g < 8 → AreLinesSoFar old new (λ l. Fence g ∷ []) held (length held) lines →
    AreLinesAfter old new (λ l. Fence g ∷ []) held lines
so_far_all old new g held lines few far = record {
  below = far.below;
  each = λ l. elim (far.each l) [
    | inl made ↦ made
    | inr same ↦
        let none : number_of held l ≡ None = rw (take_all (length held) held (omega arith)) at same.1 in
        let before : state_in old.states held l ≡ None = rw none refl in
        let after : state_in new.states lines l ≡ None = same.0 ∙ before in
        rw (before, after) (fence_none old.start g l few)
  ];
}

after_flat : (old new : TableView) (steps : ℕ → List PersistenceStep) (held lines : List HeldLine) (a : ℕ) → new.start ≡ old.start →
    AreLinesAfter old new steps held lines → memory_over new.states lines (memory_at new.start) a ≡ memory_over old.states held (memory_at old.start) a
unfolding memory_over
after_flat old new steps held lines a same after =
    let place : 64 * (a / 64) + a % 64 ≡ a = omega arith in
    let bytes = (after.each (a / 64)).bytes (a % 64) (omega arith) in
    ap (λ (s : StartView). byte_in (state_in new.states lines (a / 64)) (memory_at s) a) same ∙ rw place at bytes

pub fence_made : (old new : TableView) (g : ℕ) (held lines : List HeldLine) (memory : Memory) (p : List PersistenceStep) → new.start ≡ old.start →
    AreLinesAfter old new (λ l. Fence g ∷ []) held lines → IsMemoryOf old.start old.states held memory p →
    IsMemoryOf new.start new.states lines memory (Fence g ∷ p)
fence_made old new g held lines memory p same after of = record {
  below = after.below;
  flat = of.flat ∙ (λ i a. sym (after_flat old new (λ l. Fence g ∷ []) held lines a same after) i);
  lines = λ l there.
      let was = of.lines l (subst (λ (s : StartView). l < length s.medium) same there) in
      rw same ((after.each (16777216 + l)).medium l refl p was);
}
