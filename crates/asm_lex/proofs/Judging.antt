-- Whether each piece of a line is a token, as far as the pieces are looked at.
use Rattle.std.proofs.Common.{◌≡◌, ℕ, ◌≤◌, List, [], ◌∷◌, length, drop, refl, sym, ap, ◌∙◌, arith}
use Rattle.std.specs.Prelude.{Option, is_some, true, false}
use Rattle.std.specs.List.{slice_range}
use Rattle.asm_lex.specs.Pieces.{pieces}
use Rattle.asm_lex.specs.Kinds.{Lexeme, kind_of, are_tokens}
use Rattle.asm_lex.specs.Tokens.{IsNextKind}
use Rattle.asm_lex.specs.Scan.{IsNextPiece}

-- the pieces before a place are tokens, so that the others decide
pub record IsJudgedTo (line : List ℕ) (at : ℕ) : Type 0 where
  pub in_range : at ≤ length line
  pub same : are_tokens (pieces (drop at line)) ≡ are_tokens (pieces line)

pub judged_start : (line : List ℕ) → IsJudgedTo line 0
judged_start line = record { in_range = omega arith; same = refl }

token_first : (piece : List ℕ) (rest : List (List ℕ)) → is_some (kind_of piece) ≡ true → are_tokens (piece ∷ rest) ≡ are_tokens rest
unfolding are_tokens
token_first piece rest is = rw is refl

other_first : (piece : List ℕ) (rest : List (List ℕ)) → is_some (kind_of piece) ≡ false → are_tokens (piece ∷ rest) ≡ false
unfolding are_tokens
other_first piece rest is = rw is refl

none_left : are_tokens [] ≡ true
unfolding are_tokens
none_left = refl

pub judged_next : (line : List ℕ) (at start end : ℕ) → IsJudgedTo line at → IsNextPiece line at start end
    → is_some (kind_of (slice_range line start end)) ≡ true → IsJudgedTo line end
judged_next line at start end judged next is = record {
  in_range = next.in_range;
  same = sym (token_first (slice_range line start end) (pieces (drop end line)) is)
      ∙ ap (λ (l : List (List ℕ)). are_tokens l) (sym next.cut) ∙ judged.same;
}

pub judged_bad : (line : List ℕ) (at start end : ℕ) → IsJudgedTo line at → IsNextPiece line at start end
    → is_some (kind_of (slice_range line start end)) ≡ false → are_tokens (pieces line) ≡ false
judged_bad line at start end judged next is =
    sym judged.same ∙ ap (λ (l : List (List ℕ)). are_tokens l) next.cut
    ∙ other_first (slice_range line start end) (pieces (drop end line)) is

pub judged_all : (line : List ℕ) (at : ℕ) → IsJudgedTo line at → pieces (drop at line) ≡ [] → are_tokens (pieces line) ≡ true
judged_all line at judged none =
    sym judged.same ∙ ap (λ (l : List (List ℕ)). are_tokens l) none ∙ none_left

-- the next token by the next piece
pub kind_found : (line : List ℕ) (from start end : ℕ) (kind : Option Lexeme) → IsNextPiece line from start end → kind ≡ kind_of (slice_range line start end)
    → IsNextKind line from kind end
kind_found line from start end kind next is =
    record {
      piece = slice_range line start end;
      is = sym is;
      after = omega (arith, next.after, next.nonempty);
      in_range = next.in_range;
      cut = next.cut;
    }
