-- What the tokens of a line are.
use Rattle.std.specs.Prelude.{◌≡◌, ℕ, ◌+◌, ◌<◌, ◌≤◌, List, [], ◌∷◌, Option, Some, true, false, length, drop, map, All}
use Rattle.std.specs.List.{slice_range, AllPass}
use Rattle.asm_lex.specs.Pieces.{is_blank, pieces}
use Rattle.asm_lex.specs.Kinds.{Lexeme, kind_of, lexeme_of, are_tokens}
use Rattle.asm_lex.specs.declared.LexFault.{LexFault}
use Rattle.asm_lex.specs.declared.LexFault.TheVariants.{BadToken, Memory}
use Rattle.asm_lex.specs.declared.Token.{Token}

-- the bytes of a token
abbrev pub text_of : Token → List ℕ
text_of t = t.text.now

-- the place after a token's last byte
abbrev pub end_of : Token → ℕ
end_of t = t.start + length (text_of t)

-- the token is the part of the line at its start, with only blanks before it from a place on
pub record StandsNext (line : List ℕ) (from : ℕ) (t : Token) : Type 0 where
  pub after : from ≤ t.start
  pub blanks : AllPass is_blank (slice_range line from t.start)
  pub slice : text_of t ≡ slice_range line t.start (end_of t)

-- tokens that stand in a line, one after the other, from a place on
abbrev pub StandInOrder : List ℕ → ℕ → List Token → Type 0
StandInOrder line from [] = Unit {0}
StandInOrder line from (t ∷ ts) = StandsNext line from t × StandInOrder line (end_of t) ts

-- ts are the tokens of a line, which is the line of this number
pub record AreTokensOf (line : List ℕ) (number : ℕ) (ts : List Token) : Type 0 where
  pub texts : map text_of ts ≡ pieces line
  pub kinds : All (λ t. kind_of (text_of t) ≡ Some (lexeme_of t.kind)) ts
  pub places : StandInOrder line 0 ts
  pub numbered : All (λ t. t.line ≡ number) ts

-- why a line has no tokens: some piece of it is no token, or each is one and memory was refused
abbrev pub IsFaultOf : List ℕ → LexFault → Type 0
IsFaultOf line BadToken = are_tokens (pieces line) ≡ false
IsFaultOf line Memory = are_tokens (pieces line) ≡ true

-- after a place, the line's next piece ends at end, and is this token, if it is one
pub record IsNextKind (line : List ℕ) (from : ℕ) (kind : Option Lexeme) (end : ℕ) : Type 0 where
  pub piece : List ℕ
  pub is : kind_of piece ≡ kind
  pub after : from < end
  pub in_range : end ≤ length line
  pub cut : pieces (drop from line) ≡ piece ∷ pieces (drop end line)
