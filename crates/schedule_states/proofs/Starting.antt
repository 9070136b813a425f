-- The lines of a region have its bytes.
use Rattle.std.proofs.Common.{◌≡◌, ℕ, zero, suc, ◌+◌, ◌-◌, ◌*◌, ◌/◌, ◌%◌, ◌≤◌, List, [], ◌∷◌, ◌++◌, length, slice_get, refl, sym, ap, ◌∙◌, inl, inr, arith}
use Rattle.std.proofs.lemmas.Bool.{cases_lt}
use Rattle.std.proofs.lemmas.List.{length-append}
use Rattle.std.specs.List.{concat}
use Rattle.line_memory.specs.Lines.{AreLines, IsMedium, line_bytes}
use Rattle.line_memory.specs.Regions.{padded}
use Rattle.line_memory.proofs.Padding.{length-padded}
use Rattle.schedule_states.proofs.Looking.{got_left, got_right}
use Rattle.schedule_states.specs.StartLines.{AreOf}

-- the lines after the first
rest_whole : (first : List ℕ) (lines : List (List ℕ)) → AreLines (first ∷ lines) → AreLines lines
rest_whole first lines each = record { whole = λ line h. each.whole (suc line) (omega arith) }

pub length_joined : (lines : List (List ℕ)) → AreLines lines → length (concat lines) ≡ 64 * length lines
length_joined [] each = refl
length_joined (first ∷ lines) each =
    let long : length first ≡ 64 = each.whole zero (omega arith) in
    let rest = length_joined lines (rest_whole first lines each) in
    let all = length-append first (concat lines) in
    omega arith

-- the bytes of lines are those of all lines one after the other
pub joined_bytes : (lines : List (List ℕ)) → AreLines lines → (offset : ℕ) → line_bytes lines offset ≡ slice_get (concat lines) offset
unfolding line_bytes
joined_bytes [] each offset = refl
joined_bytes (first ∷ lines) each offset =
    let long : length first ≡ 64 = each.whole zero (omega arith) in
    elim (cases_lt offset 64) [
      | inl low ↦
          let line : offset / 64 ≡ 0 = omega arith in
          let place : offset % 64 ≡ offset = omega arith in
          rw (line, place) (sym (got_left first (concat lines) offset (omega arith)))
      | inr high ↦
          let line : offset / 64 ≡ suc ((offset - 64) / 64) = omega arith in
          let place : offset % 64 ≡ (offset - 64) % 64 = omega arith in
          let at : offset ≡ length first + (offset - 64) = omega arith in
          let rest = joined_bytes lines (rest_whole first lines each) (offset - 64) in
          let there = got_right first (concat lines) (offset - 64) in
          rw (line, place) (rest ∙ sym there ∙ ap (λ (i : ℕ). slice_get (first ++ concat lines) i) (sym at))
    ]

pub lines_are : (lines : List (List ℕ)) (bytes : List ℕ) (count : ℕ) → IsMedium lines → concat lines ≡ padded bytes (64 * count) → length bytes ≤ 64 * count →
    AreOf bytes count lines
lines_are lines bytes count medium joined fits =
    let whole = length_joined lines medium.each in
    let same = ap (λ (b : List ℕ). length b) joined ∙ length-padded bytes (64 * count) fits in record {
      medium = medium;
      count = omega arith;
      shown = λ offset. joined_bytes lines medium.each offset ∙ ap (λ (b : List ℕ). slice_get b offset) joined;
    }
