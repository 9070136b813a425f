-- How a text's lines begin.
use Rattle.std.proofs.Common.{◌≡◌, ℕ, ◌+◌, ◌<◌, Bool, false, List, [], ◌∷◌, Some, None, length, take, drop, refl, arith, eqb, position}
use Rattle.std.specs.List.{All, after_first, before_first, position_or_len, slice_split}
use Rattle.std.proofs.lemmas.List.Splits.{length-slice_split, slice_split_first, slice_split_none}
use Rattle.std.proofs.lemmas.List.{drop_all}
use Rattle.std.proofs.lemmas.List.Elements.{All-from_get_or}
use Rattle.std.proofs.lemmas.List.Sums.{fails_before_first}
use Rattle.text.proofs.Parting.{found, missing}
use Rattle.plan.specs.Lines.{is_line_end, lines, without_empty_end}

kept : (line : List ℕ) (rest : List (List ℕ)) → 0 < length rest → without_empty_end (line ∷ rest) ≡ line ∷ without_empty_end rest
kept line [] some = absurd (omega arith)
kept [] (next ∷ rest) some = refl
kept (b ∷ bs) (next ∷ rest) some = refl

alone : (line : List ℕ) → 0 < length line → without_empty_end (line ∷ []) ≡ line ∷ []
alone [] some = absurd (omega arith)
alone (b ∷ bs) some = refl

-- up to a line end
pub line_ends : (text : List ℕ) (end : ℕ) → position is_line_end text ≡ Some end → lines text ≡ take end text ∷ lines (drop (end + 1) text)
line_ends text end e =
    let (same, inside) = found is_line_end text end e in
    let parted = slice_split_first is_line_end text 0 (omega arith) in
    rw (parted, same)
    (kept (before_first is_line_end text) (slice_split is_line_end (after_first is_line_end text))
    (omega (arith, length-slice_split is_line_end (after_first is_line_end text))))

-- without a line end the text is a line
pub last_line : (text : List ℕ) → position is_line_end text ≡ None → 0 < length text → lines text ≡ text ∷ lines (drop (length text) text)
last_line text e some =
    let whole : position_or_len is_line_end text ≡ length text = missing is_line_end text e in
    let none : All (λ byte. is_line_end byte ≡ false) text =
    All-from_get_or (λ byte. is_line_end byte ≡ false) text 0 (λ i inside. fails_before_first is_line_end text i 0 (omega arith)) in
    rw (slice_split_none is_line_end text none, drop_all (length text) text (omega arith)) (alone text some)

-- a text that isn't empty
pub filled_text : (text : List ℕ) (test : Bool) → test ≡ eqb (length text) 0 → test ≡ false → 0 < length text
filled_text [] test e empty = absurd cc
filled_text (b ∷ bs) test e empty = omega arith
