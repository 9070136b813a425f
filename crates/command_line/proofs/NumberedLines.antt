-- How a text is searched for the line of a number.
use Rattle.std.proofs.Common.{◌≡◌, ◌∙◌, ◌+◌, ◌-◌, ◌<◌, ℕ, List, [], ◌∷◌, Option, Some, None, ap, arith, refl, suc, sym}
use Rattle.std.specs.Prelude.{slice_get}
use Rattle.asm_lex.specs.Lines.{cut_at_feeds, lines_of, without_returns}
use Rattle.command_line.specs.SourceLines.{numbered_line}

-- an empty text has no lines
no_lines : lines_of [] ≡ []
unfolding lines_of cut_at_feeds without_returns
no_lines = refl

-- one line further
pub next_number : (text rest after line : List ℕ) (number count : ℕ) → lines_of rest ≡ line ∷ lines_of after → count < number - 1
    → numbered_line text number ≡ slice_get (lines_of rest) ((number - 1) - count)
    → numbered_line text number ≡ slice_get (lines_of after) ((number - 1) - (count + 1))
next_number text rest after line number count cut below so_far =
    let further : (number - 1) - count ≡ suc ((number - 1) - (count + 1)) = omega arith in
    so_far
    ∙ ap (λ (lines : List (List ℕ)). slice_get lines ((number - 1) - count)) cut
    ∙ ap (slice_get (line ∷ lines_of after)) further

-- the text ends before it
pub no_number : (text rest : List ℕ) (number left : ℕ) → rest ≡ [] → numbered_line text number ≡ slice_get (lines_of rest) left
    → None ≡ numbered_line text number
no_number text rest number left ended so_far =
    sym (so_far ∙ ap (λ (bytes : List ℕ). slice_get (lines_of bytes) left) ended ∙ ap (λ (lines : List (List ℕ)). slice_get lines left) no_lines)

-- it is the next line
pub this_number : (text rest after line : List ℕ) (number count : ℕ) → lines_of rest ≡ line ∷ lines_of after → count ≡ number - 1
    → numbered_line text number ≡ slice_get (lines_of rest) ((number - 1) - count) → Some line ≡ numbered_line text number
this_number text rest after line number count cut all so_far =
    let none_left : (number - 1) - count ≡ 0 = omega arith in
    sym (
    so_far
    ∙ ap (λ (lines : List (List ℕ)). slice_get lines ((number - 1) - count)) cut
    ∙ ap (slice_get (line ∷ lines_of after)) none_left)
