-- The lexemes of a line: its tokens, as the grammar of statements sees them.
use Rattle.std.specs.Prelude.{ℕ, List, [], ◌∷◌, Option, Some, None}
use Rattle.asm_lex.specs.Kinds.{Lexeme, kind_of}

-- the lexemes that pieces of a line are, where each piece is a token
abbrev pub with_lexeme : Option Lexeme → Option (List Lexeme) → Option (List Lexeme)
with_lexeme (Some l) (Some ls) = Some (l ∷ ls)
with_lexeme (Some l) None = None
with_lexeme None ls = None

abbrev pub lexemes_of : List (List ℕ) → Option (List Lexeme)
lexemes_of [] = Some []
lexemes_of (p ∷ ps) = with_lexeme (kind_of p) (lexemes_of ps)
