-- What is wanted in place of what is at fault in a source line, in words; an empty text says nothing.
use Rattle.std.specs.Prelude.{ℕ, ◌==◌, Bool, ◌||◌, List, [], ◌∷◌, Option, Some, None, codes, if◌then◌else◌, length}
use Rattle.std.specs.Char.{is_ascii_uppercase}
use Rattle.std.specs.List.{list_any}
use Rattle.asm_lex.specs.Mnemonics.{mnemonic_of}
use Rattle.asm_lex.specs.Tokens.{text_of}
use Rattle.asm_lex.specs.declared.Token.{Token}
use Rattle.asm_lex.specs.declared.asm_names.mnemonic.Mnemonic.{Mnemonic as Known}
use Rattle.assemble.specs.declared.asm_line.fault.AsmCode.{AsmCode}
use Rattle.assemble.specs.declared.asm_line.fault.AsmCode.TheVariants.{BadToken, Mnemonic, Operands, Register, Range, UnknownLabel, LabelTwice, WrongSection, TooLarge, Memory}
use Rattle.report.specs.SlipPlaces.{statement}
use Rattle.report.specs.SlipShapes.{range_text, shape_text}
use Rattle.report.specs.SlipUnknown.{instead_of}

-- a text, or another one in place of nothing
abbrev pub or_else : List ℕ → List ℕ → List ℕ
or_else text other = if length text == 0 then other else text

abbrev pub has_capital : List ℕ → Bool
has_capital text = list_any is_ascii_uppercase text

-- a name that has a capital letter
abbrev pub letters_hint : Option Token → List ℕ
letters_hint None = []
letters_hint (Some token) = if has_capital (text_of token) then codes "names are in lower case" else []

-- a name that is no mnemonic
abbrev pub name_hint : Option Token → List ℕ
name_hint None = []
name_hint (Some token) = or_else (instead_of (text_of token)) (letters_hint (Some token))

-- the mnemonic of a line
abbrev pub mnemonic_among : List Token → Option Known
mnemonic_among [] = None
mnemonic_among (first ∷ rest) = mnemonic_of (text_of first)

abbrev pub mnemonic_in : List Token → Option Known
mnemonic_in tokens = mnemonic_among (statement tokens)

-- what a mnemonic takes, and the range of its number or distance
abbrev pub shape_hint : Option Known → List ℕ
shape_hint None = []
shape_hint (Some mnemonic) = shape_text mnemonic

abbrev pub range_hint : Option Known → List ℕ
range_hint None = []
range_hint (Some mnemonic) = range_text mnemonic

-- what is wanted of a line, by the code of its refusal and the token at fault
abbrev pub hint_of : AsmCode → List Token → Option Token → List ℕ
hint_of Mnemonic tokens at = name_hint at
hint_of Register tokens at = letters_hint at
hint_of Operands tokens at = shape_hint (mnemonic_in tokens)
hint_of Range tokens at = range_hint (mnemonic_in tokens)
hint_of code tokens at = []

-- of a byte that no source may have: `;` `/` `@`, and `'` `"`
abbrev pub byte_hint : ℕ → List ℕ
byte_hint byte =
    if (byte == 59) || ((byte == 47) || (byte == 64)) then codes "comments begin with #"
    else (if (byte == 39) || (byte == 34) then codes "write characters as numbers" else [])
