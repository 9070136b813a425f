-- The images of a state are media.
use Rattle.std.proofs.Common.{◌≡◌, inl, inr, ℕ, zero, suc, ◌+◌, ◌<◌, ◌==◌, List, [], ◌∷◌, Option, Some, None, option_and_then, length, slice_get, slice_index_or, refl, ap, ◌∙◌, arith}
use Rattle.std.proofs.lemmas.Bool.{cases_Bool, cases_lt}
use Rattle.std.proofs.lemmas.List.{get_or_past}
use Rattle.std.proofs.lemmas.Option.{same_Some}
use Rattle.line_memory.specs.Lines.{IsMedium, line_at}
use Rattle.schedule_states.specs.HeldLines.{number_of}
use Rattle.schedule_states.specs.Images.{AreFair, IsFair, content_of, image_from, image_in, line_in}
use Rattle.schedule_states.specs.LineStates.{unfenced}
use Rattle.schedule_states.specs.Memories.{MemoryView}
use Rattle.schedule_states.specs.declared.held_lines.HeldLine.{HeldLine}
use Rattle.schedule_states.specs.declared.line_state.Content.{Content}
use Rattle.schedule_states.specs.declared.line_state.LineState.{LineState}

-- the number of a line's state is that of a held line
number_held : (held : List HeldLine) (l m : ℕ) (d : HeldLine) → number_of held l ≡ Some m →
    (n : ℕ) × (n < length held) × ((slice_index_or held n d).state ≡ m)
number_held [] l m d found = absurd cc
number_held (h ∷ held) l m d found = elim (cases_Bool (h.line == l)) [
  | inl here ↦ (0, omega arith, same_Some h.state m (rw here at found))
  | inr other ↦
      let rest : (n : ℕ) × (n < length held) × ((slice_index_or held n d).state ≡ m) = number_held held l m d (rw other at found) in
      (suc rest.0, omega (arith, rest.1), rest.2)
]

fair_of : (m : MemoryView) (l : ℕ) (s : LineState) (number : Option ℕ) →
    ((n : ℕ) (d : HeldLine) (s : LineState) → n < length m.held → slice_get m.states (slice_index_or m.held n d).state ≡ Some s → IsFair s) →
    number_of m.held l ≡ number → option_and_then (slice_get m.states) number ≡ Some s → IsFair s
fair_of m l s None each is found = absurd cc
fair_of m l s (Some k) each is found =
    let d : HeldLine = record { line = 0; state = 0 } in
    let held : (n : ℕ) × (n < length m.held) × ((slice_index_or m.held n d).state ≡ k) = number_held m.held l k d is in
    each held.0 d s held.1 (ap (λ (j : ℕ). slice_get m.states j) held.2 ∙ found)

pub fair_lines : (m : MemoryView) → ((n : ℕ) (d : HeldLine) (s : LineState) → n < length m.held → slice_get m.states (slice_index_or m.held n d).state ≡ Some s → IsFair s) →
    AreFair m
fair_lines m each l s found = fair_of m l s (number_of m.held l) each refl found

content_long : (start : List ℕ) (held : Option LineState) (n : ℕ) → length start ≡ 64 → ((s : LineState) → held ≡ Some s → IsFair s) → length (content_of start held n) ≡ 64
content_long start None n long fair = long
content_long start (Some s) zero long fair = (fair s refl).bytes
content_long start (Some s) (suc n) long fair = elim (cases_lt n (length s.others.items)) [
  | inl there ↦ (fair s refl).others n (unfenced s.bytes) there
  | inr past ↦
      let default : slice_index_or s.others.items n (unfenced s.bytes) ≡ unfenced s.bytes = get_or_past s.others.items n (unfenced s.bytes) past in
      ap (λ (c : Content). length c.bytes) default ∙ (fair s refl).bytes
]

image_long : (m : MemoryView) (k : ℕ → ℕ) (i : ℕ) (lines : List (List ℕ)) → length (image_from m k i lines) ≡ length lines
image_long m k i [] = refl
image_long m k i (line ∷ lines) = ap (λ (n : ℕ). suc n) (image_long m k (suc i) lines)

lines_long : (m : MemoryView) (k : ℕ → ℕ) (i : ℕ) (lines : List (List ℕ)) (n : ℕ) → AreFair m →
    ((n : ℕ) → n < length lines → length (line_at lines n) ≡ 64) → n < length lines → length (line_at (image_from m k i lines) n) ≡ 64
lines_long m k i [] n fair each there = absurd (omega (arith, there))
lines_long m k i (line ∷ lines) zero fair each there = content_long line (line_in m i) (k i) (each 0 there) (λ s found. fair (16777216 + i) s found)
lines_long m k i (line ∷ lines) (suc n) fair each there =
    lines_long m k (suc i) lines n fair (λ n there. each (suc n) (omega (arith, there))) (omega (arith, there))

pub image_is_medium : (m : MemoryView) (k : ℕ → ℕ) → AreFair m → IsMedium m.start.medium → IsMedium (image_in m k)
image_is_medium m k fair is =
    let long : length (image_in m k) ≡ length m.start.medium = image_long m k 0 m.start.medium in record {
      least = rw long is.least;
      most = rw long is.most;
      each = record { whole = λ n there. lines_long m k 0 m.start.medium n fair (λ n there. is.each.whole n there) (rw long at there) };
    }
