-- Which pieces are tokens, and what they stand for.
use Rattle.std.specs.Prelude.{ℕ, ◌^◌, Bool, false, not, ◌&&◌, ◌||◌, List, [], ◌∷◌, Option, Some, None, is_some, length, drop, nat_lt, ◌==◌, if◌then◌else◌}
use Rattle.std.specs.Char.{is_digit}
use Rattle.std.specs.List.{list_all}
use Rattle.std.specs.Str.Parse.{digits_value}
use Rattle.asm_lex.specs.Pieces.{is_word}
use Rattle.asm_lex.specs.declared.Kind.{Kind}
use Rattle.asm_lex.specs.declared.Kind.TheVariants as kinds

-- what a token is: a name or a number with its text, or a mark
pub data Lexeme : Type 0 where
  name : List ℕ → Lexeme
  number : Option ℕ → List ℕ → Lexeme
  comma : Lexeme
  opening : Lexeme
  closing : Lexeme
  colon : Lexeme
  plus : Lexeme
  minus : Lexeme

-- the same without the place of its text
abbrev pub lexeme_of : Kind → Lexeme
lexeme_of (kinds.Name text) = name text.now
lexeme_of (kinds.Number value text) = number value text.now
lexeme_of kinds.Comma = comma
lexeme_of kinds.Open = opening
lexeme_of kinds.Close = closing
lexeme_of kinds.Colon = colon
lexeme_of kinds.Plus = plus
lexeme_of kinds.Minus = minus

-- each byte is a digit in this radix, letters in either case
unfoldable pub are_digits : ℕ → List ℕ → Bool
are_digits radix bs = list_all (λ b. is_digit b radix) bs

-- one decimal digit or more, of which the first is 0, which is 48, only where it is alone
unfoldable pub is_decimal : List ℕ → Bool
is_decimal [] = false
is_decimal (b ∷ bs) = are_digits 10 (b ∷ bs) && (not (b == 48) || length bs == 0)

-- `0x`, which is 48 and 120, and one hexadecimal digit or more
unfoldable pub is_hexadecimal : List ℕ → Bool
is_hexadecimal [] = false
is_hexadecimal (a ∷ []) = false
is_hexadecimal (a ∷ b ∷ bs) = a == 48 && b == 120 && not (length bs == 0) && are_digits 16 bs

-- a number, where it is one of 64 bits
unfoldable pub in_word : ℕ → Option ℕ
in_word n = if nat_lt n (2 ^ 64) then Some n else None

-- the number that digits of a radix write, one or more; None of other bytes
unfoldable pub value_of : ℕ → List ℕ → Option (Option ℕ)
value_of radix [] = None
value_of radix (d ∷ ds) = if are_digits radix (d ∷ ds) then Some (in_word (digits_value radix (d ∷ ds))) else None

-- the number that a piece writes
unfoldable pub number_of : List ℕ → Option Lexeme
number_of bs =
    if is_decimal bs then Some (number (in_word (digits_value 10 bs)) bs)
    else (if is_hexadecimal bs then Some (number (in_word (digits_value 16 (drop 2 bs))) bs) else None)

-- the mark that a byte is: `,` `(` `)` `:` `+` `-`
unfoldable pub mark_of : ℕ → Option Lexeme
mark_of b =
    if b == 44 then Some comma
    else (if b == 40 then Some opening
    else (if b == 41 then Some closing
    else (if b == 58 then Some colon
    else (if b == 43 then Some plus
    else (if b == 45 then Some minus
    else None)))))

-- the token that a piece is, if it is one: a run that begins with a digit has to be a number
unfoldable pub kind_of : List ℕ → Option Lexeme
kind_of [] = None
kind_of (b ∷ bs) =
    if is_digit b 10 then number_of (b ∷ bs)
    else (if is_word b then Some (name (b ∷ bs)) else mark_of b)

-- each of these pieces is a token
unfoldable pub are_tokens : List (List ℕ) → Bool
are_tokens ps = list_all (λ p. is_some (kind_of p)) ps
