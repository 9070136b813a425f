-- A line of numbers, as it is read from a place on.
use Rattle.std.specs.Prelude.{◌≡◌, ℕ, ◌<◌, ◌≤◌, List, Some, Option, Ok, length, drop}
use Rattle.asm_lex.specs.Pieces.{pieces}
use Rattle.asm_lex.specs.Kinds.{Lexeme, name, number}
use Rattle.asm_lex.specs.Mnemonics.{mnemonic_of}
use Rattle.asm_lex.specs.Tokens.{IsNextKind}
use Rattle.asm_lex.specs.declared.asm_names.kinds.NumberWidth.{NumberWidth}
use Rattle.asm_lex.specs.declared.asm_names.mnemonic.Mnemonic.TheVariants.{Numbers}
use Rattle.assemble.specs.Lexemes.{lexemes_of}
use Rattle.assemble.specs.Numbers.{number_then, numbers_of}
use Rattle.assemble.specs.Steps.{values_by}
use Rattle.assemble.specs.declared.asm_line.operands.SignedNumber.{SignedNumber}

-- the lexemes of a line after a place
abbrev pub lexemes_after : List ℕ → ℕ → Option (List Lexeme)
lexemes_after line from = lexemes_of (pieces (drop from line))

-- the line begins with the directive of numbers of this width
pub record BeginsNumbers (line : List ℕ) (width : NumberWidth) (end : ℕ) : Type 0 where
  pub text : List ℕ
  pub token : IsNextKind line 0 (Some (name text)) end
  pub is : mnemonic_of text ≡ Some (Numbers width)

-- after a place, the line's next token is a number of this size
pub record HasSize (line : List ℕ) (from : ℕ) (size : Option ℕ) (end : ℕ) : Type 0 where
  pub text : List ℕ
  pub token : IsNextKind line from (Some (number size text)) end

-- lexemes that a number begins, before others
pub record BeginsWith (n : SignedNumber) (ls : List Lexeme) (found : Option (List Lexeme)) : Type 0 where
  pub lexemes : List Lexeme
  pub are : found ≡ Some lexemes
  pub step : number_then lexemes ≡ Some (n, ls)

-- after a place, a number stands in the line, with its sign
pub record HasNumber (line : List ℕ) (from : ℕ) (n : SignedNumber) (end : ℕ) : Type 0 where
  pub after : from < end
  pub in_range : end ≤ length line
  pub begins : (ls : List Lexeme) → lexemes_after line end ≡ Some ls → BeginsWith n ls (lexemes_after line from)

-- after a place, the line is numbers between commas, of these values
pub record HasValues (width : NumberWidth) (line : List ℕ) (from : ℕ) (values : List ℕ) : Type 0 where
  pub lexemes : List Lexeme
  pub are : lexemes_after line from ≡ Some lexemes
  pub values_are : values_by width (numbers_of lexemes) ≡ Ok values
