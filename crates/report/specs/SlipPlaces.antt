-- Where in a source line that is refused the fault stands.
use Rattle.std.specs.Prelude.{ℕ, ◌==◌, Bool, true, false, not, ◌&&◌, ◌||◌, List, [], ◌∷◌, Option, Some, None, count_by, find, is_some, take, if◌then◌else◌}
use Rattle.std.specs.Char.{is_ascii_alphanumeric}
use Rattle.std.specs.List.{list_any, prefix_len}
use Rattle.asm_lex.specs.Kinds.{Lexeme, name, number, comma, opening, closing, colon, plus, minus, lexeme_of}
use Rattle.asm_lex.specs.Registers.{register_of}
use Rattle.asm_lex.specs.declared.Token.{Token}
use Rattle.assemble.specs.declared.asm_line.fault.AsmCode.{AsmCode}
use Rattle.assemble.specs.declared.asm_line.fault.AsmCode.TheVariants.{BadToken, Mnemonic, Operands, Register, Range, UnknownLabel, LabelTwice, WrongSection, TooLarge, Memory}

-- the marks of a source, `_` and `.`, and blanks
abbrev pub is_sign : ℕ → Bool
is_sign byte = (byte == 95) || ((byte == 46) || ((byte == 32) || ((byte == 9) || ((byte == 44) || ((byte == 40) || ((byte == 41) || ((byte == 58) || ((byte == 43) || (byte == 45)))))))))

-- a byte that may stand in a source outside comments
abbrev pub can_stand : ℕ → Bool
can_stand byte = is_ascii_alphanumeric byte || is_sign byte

-- a line up to its comment, which begins with `#`
abbrev pub uncommented : List ℕ → List ℕ
uncommented line = take (prefix_len (λ byte. not (byte == 35)) line) line

abbrev pub is_name : Lexeme → Bool
is_name (name text) = true
is_name (number value text) = false
is_name comma = false
is_name opening = false
is_name closing = false
is_name colon = false
is_name plus = false
is_name minus = false

abbrev pub is_colon : Lexeme → Bool
is_colon colon = true
is_colon (name text) = false
is_colon (number value text) = false
is_colon comma = false
is_colon opening = false
is_colon closing = false
is_colon plus = false
is_colon minus = false

abbrev pub is_number : Lexeme → Bool
is_number (number value text) = true
is_number (name text) = false
is_number comma = false
is_number opening = false
is_number closing = false
is_number colon = false
is_number plus = false
is_number minus = false

-- a name that no register has
abbrev pub is_other_name : Lexeme → Bool
is_other_name (name text) = not (is_some (register_of text))
is_other_name (number value text) = false
is_other_name comma = false
is_other_name opening = false
is_other_name closing = false
is_other_name colon = false
is_other_name plus = false
is_other_name minus = false

-- the tokens of a line behind its label, a name and a colon, if it has one
abbrev pub statement : List Token → List Token
statement [] = []
statement (token ∷ []) = token ∷ []
statement (first ∷ second ∷ rest) =
    if is_name (lexeme_of first.kind) && is_colon (lexeme_of second.kind) then rest else first ∷ second ∷ rest

-- those behind its mnemonic
abbrev pub behind_first : List Token → List Token
behind_first [] = []
behind_first (mnemonic ∷ rest) = rest

abbrev pub operands : List Token → List Token
operands tokens = behind_first (statement tokens)

abbrev pub first_token : List Token → Option Token
first_token [] = None
first_token (token ∷ rest) = Some token

-- the first name that no register has
abbrev pub other_name : List Token → Option Token
other_name tokens = find (λ token. is_other_name (lexeme_of token.kind)) tokens

-- the number, where there is no other one
abbrev pub only_number : List Token → Option Token
only_number tokens =
    if count_by (λ token. is_number (lexeme_of token.kind)) tokens == 1 then find (λ token. is_number (lexeme_of token.kind)) tokens else None

-- the token at which a line is at fault, by the code of its refusal: a mnemonic that isn't there or stands in the wrong section, a label that
-- stands twice, an operand that is no register or a label that isn't there, or a number out of range
abbrev pub fault_token : AsmCode → List Token → Option Token
fault_token BadToken tokens = None
fault_token Mnemonic tokens = first_token (statement tokens)
fault_token Operands tokens = None
fault_token Register tokens = other_name (operands tokens)
fault_token Range tokens = only_number (operands tokens)
fault_token UnknownLabel tokens = other_name (operands tokens)
fault_token LabelTwice tokens = first_token tokens
fault_token WrongSection tokens = first_token (statement tokens)
fault_token TooLarge tokens = None
fault_token Memory tokens = None
