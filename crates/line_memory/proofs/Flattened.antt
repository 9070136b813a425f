-- The bytes of all lines one after the other, and those of each.
use Rattle.std.proofs.Common.{ℕ, zero, suc, ◌+◌, ◌<◌, ◌++◌, List, [], ◌∷◌, length, get_or, slice_index, arith, sym, inl, inr}
use Rattle.std.proofs.lemmas.Bool.{cases_lt}
use Rattle.std.proofs.lemmas.List.{get_or_append_left, get_or-append-add, get_or_past}
use Rattle.std.specs.List.{flat_map}
use Rattle.line_memory.specs.Lines.{line_at}

abbrev all_lines : List (List ℕ) → List ℕ
all_lines lines = flat_map (λ line. line) lines

first_is_byte : (line rest : List ℕ) (place : ℕ) → get_or (line ++ rest) place 0 < 256 → get_or line place 0 < 256
first_is_byte line rest place small = elim (cases_lt place (length line)) [
  | inl within ↦ rw (sym (get_or_append_left line rest 0 place within)) small
  | inr past ↦ rw (get_or_past line place 0 past) (omega arith)
]

pub each_is_byte : (lines : List (List ℕ)) → ((place : ℕ) → slice_index (flat_map (λ line. line) lines) place < 256)
    → (line place : ℕ) → slice_index (line_at lines line) place < 256
each_is_byte [] small line place = omega arith
each_is_byte (first ∷ lines) small zero place = first_is_byte first (all_lines lines) place (small place)
each_is_byte (first ∷ lines) small (suc line) place =
    each_is_byte lines (λ p. rw (sym (get_or-append-add first (all_lines lines) p 0)) (small (length first + p))) line place
