-- A line is put among those that are held.
use Rattle.std.proofs.Common.{◌≡◌, ◌⊎◌, ℕ, ◌+◌, ◌/◌, ◌==◌, ◌<◌, cond, List, [], ◌∷◌, ◌++◌, Option, Some, None, length, slice_get, refl, sym, ap, ◌∙◌, subst, inl, inr}
use Rattle.std.specs.Prelude.{IfOk, Result, Ok, Err, option_and_then}
use Rattle.std.proofs.lemmas.Bool.{eq-eqb, ne_eqb}
use Rattle.bus.proofs.Places.{there_is}
use Rattle.schedule_states.proofs.Held.{number_below}
use Rattle.schedule_states.proofs.Looking.{got_appended, within_kept}
use Rattle.schedule_states.specs.HeldLines.{AreBelow, number_of}
use Rattle.line_memory.specs.Lines.{line_at}
use Rattle.line_memory.specs.Memory.{Memory}
use Rattle.store_trace.specs.declared.crash_model.step.PersistenceStep.{PersistenceStep}
use Rattle.schedule_states.specs.Memories.{AreSame, IsAsAtStart, IsLineOf, IsMemoryOf, IsPut, TableView, byte_in, memory_over, state_in}
use Rattle.schedule_states.specs.Numbers.{AreKept}
use Rattle.schedule_states.specs.StartLines.{StartView, memory_at}
use Rattle.schedule_states.specs.States.{AreLists}
use Rattle.schedule_states.specs.declared.held_lines.HeldLine.{HeldLine}
use Rattle.schedule_states.specs.declared.line_state.LineState.{LineState}

pub ok_of_both : {X E : Type 0} {P Q R : X → Type 0} (r : Result X E) → IfOk r P → IfOk r Q → ((x : X) → P x → Q x → R x) → IfOk r R
ok_of_both (Ok x) p q f = f x p q
ok_of_both (Err e) p q f = tt

-- what a line held is stays as the table grows
abbrev option_states : List LineState → Option ℕ → Option LineState
option_states states n = option_and_then (slice_get states) n

found_still : (old new : List LineState) (n : Option ℕ) → AreKept old new → ((m : ℕ) → n ≡ Some m → m < length old) →
    option_states new n ≡ option_states old n
found_still old new None grows below = refl
found_still old new (Some m) grows below =
    let at : (s : LineState) × (slice_get old m ≡ Some s) = there_is old m (below m refl) in
    grows m at.0 at.1 ∙ sym at.1

pub state_kept : (old new : List LineState) (held : List HeldLine) (l : ℕ) → AreKept old new → AreBelow (length old) held → state_in new held l ≡ state_in old held l
state_kept old new held l grows below = found_still old new (number_of held l) grows (λ m is. number_below (length old) held l m below is)

pub below_grows : (old new : List LineState) (held : List HeldLine) → AreKept old new → AreBelow (length old) held → AreBelow (length new) held
below_grows old new [] grows h = tt
below_grows old new (x ∷ held) grows h = (within_kept old new x.state grows h.0, below_grows old new held grows h.1)

-- the line is as it was at the start
pub put_absent : (table : TableView) (held lines : List HeldLine) (line : ℕ) (state : LineState) → AreBelow (length table.states) held →
    IsAsAtStart table.start line state →
    ((l : ℕ) → number_of lines l ≡ cond (l == line) None (number_of held l)) → AreBelow (length table.states) lines → IsPut table table held line state lines
put_absent table held lines line state below start found few = record {
  below = few;
  here =
      let none : number_of lines line ≡ None = found line ∙ rw (eq-eqb line line refl) refl in
      rw none start;
  others = λ l other. ap (option_states table.states) (found l ∙ rw (ne_eqb l line other) refl);
}

-- it has a number
pub put_present : (old new : TableView) (held lines : List HeldLine) (line number : ℕ) (state found : LineState) → AreBelow (length old.states) held →
    AreKept old.states new.states → slice_get new.states number ≡ Some found → AreSame state found →
    ((l : ℕ) → number_of lines l ≡ cond (l == line) (Some number) (number_of held l)) → AreBelow (length new.states) lines → IsPut old new held line state lines
put_present old new held lines line number state found below grows here same numbers few = record {
  below = few;
  here =
      let mine : number_of lines line ≡ Some number = numbers line ∙ rw (eq-eqb line line refl) refl in
      rw (mine, here) same;
  others = λ l other.
      ap (option_states new.states) (numbers l ∙ rw (ne_eqb l line other) refl) ∙ state_kept old.states new.states held l grows below;
}

pub lists_grow : (old new : List LineState) (lists : List (List HeldLine)) → AreKept old new → AreLists old lists → AreLists new lists
lists_grow old new lists grows are = record {
  below = λ n held got. below_grows old new held grows (are.below n held got);
  first = are.first;
}

same_byte : (one other : Option LineState) (start : Memory) (a : ℕ) → one ≡ other → byte_in one start a ≡ byte_in other start a
same_byte one other start a e = ap (λ (s : Option LineState). byte_in s start a) e

-- memory stays as the table grows
pub memory_kept : (old new : List LineState) (held : List HeldLine) (start : Memory) → AreKept old new → AreBelow (length old) held →
    memory_over new held start ≡ memory_over old held start
unfolding memory_over
memory_kept old new held start grows below = λ i a. same_byte (state_in new held (a / 64)) (state_in old held (a / 64)) start a (state_kept old new held (a / 64) grows below) i

pub memory_of_grown : (start : StartView) (old new : List LineState) (held : List HeldLine) (memory : Memory) (p : List PersistenceStep) → AreKept old new →
    IsMemoryOf start old held memory p → IsMemoryOf start new held memory p
memory_of_grown start old new held memory p grows of = record {
  below = below_grows old new held grows of.below;
  flat = of.flat ∙ sym (memory_kept old new held (memory_at start) grows of.below);
  lines = λ l there. subst (λ (s : Option LineState). IsLineOf (line_at start.medium l) l p s) (sym (state_kept old new held (16777216 + l) grows of.below)) (of.lines l there);
}

-- a list is added
pub lists_more : (states : List LineState) (old new : List (List HeldLine)) (held : List HeldLine) → (new ≡ old) ⊎ (new ≡ old ++ held ∷ []) →
    AreKept old new → AreBelow (length states) held → AreLists states old → AreLists states new
lists_more states old new held appended kept below are = record {
  below = λ n list got. elim (got_appended old new held appended n list got) [
    | inl before ↦ are.below n list before
    | inr is ↦ subst (λ (l : List HeldLine). AreBelow (length states) l) (sym is) below
  ];
  first = kept 0 [] are.first;
}
