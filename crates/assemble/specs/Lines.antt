-- What a line says.
use Rattle.std.specs.Prelude.{ℕ, List, [], ◌∷◌, Option, Some, None, Result, Ok, Err, ok_or, is_some, if◌then◌else◌}
use Rattle.asm_lex.specs.Pieces.{pieces}
use Rattle.assemble.specs.declared.asm_line.fault.AsmCode.{AsmCode}
use Rattle.assemble.specs.declared.asm_line.fault.AsmCode.TheVariants.{BadToken, Mnemonic, Operands, Register}
use Rattle.assemble.specs.AsmLineFaults.{◌>>=◌, both}
use Rattle.assemble.specs.Grammar.{statement_of, is_dot}
use Rattle.asm_lex.specs.Kinds.{Lexeme, name, colon}
use Rattle.assemble.specs.Lexemes.{lexemes_of}
use Rattle.assemble.specs.Meanings.{Meaning, LineMeaning, nothing}
use Rattle.asm_lex.specs.Mnemonics.{mnemonic_of}
use Rattle.asm_lex.specs.Registers.{register_of}

-- a statement begins with its name
abbrev pub body_of : List Lexeme → Result Meaning AsmCode
body_of [] = Ok nothing
body_of (name text ∷ ls) = ok_or (mnemonic_of text) Mnemonic >>= λ mnemonic. statement_of mnemonic ls
body_of ls = Err Operands

-- the label that a line defines: neither `.` nor the name of a register
abbrev pub label_of : List ℕ → Result (List ℕ) AsmCode
label_of text = if is_dot text then Err BadToken else (if is_some (register_of text) then Err Register else Ok text)

abbrev pub labelled : Result (List ℕ × Meaning) AsmCode → Result LineMeaning AsmCode
labelled parts = parts >>= λ p. Ok (record { label = Some p.0; meaning = p.1 })

abbrev pub unlabelled : Result Meaning AsmCode → Result LineMeaning AsmCode
unlabelled body = body >>= λ meaning. Ok (record { label = None; meaning = meaning })

-- the name that a line begins with, before a colon, and what follows the colon
abbrev pub label_first : List Lexeme → Option (List ℕ × List Lexeme)
label_first (name text ∷ colon ∷ ls) = Some (text, ls)
label_first ls = None

-- a line of lexemes: `name:`, a statement, or both
abbrev pub line_with : Option (List ℕ × List Lexeme) → List Lexeme → Result LineMeaning AsmCode
line_with (Some (text, rest)) ls = labelled (both (label_of text) (body_of rest))
line_with None ls = unlabelled (body_of ls)

abbrev pub lexemes_line : List Lexeme → Result LineMeaning AsmCode
lexemes_line ls = line_with (label_first ls) ls

abbrev pub line_if : Option (List Lexeme) → Result LineMeaning AsmCode
line_if None = Err BadToken
line_if (Some ls) = lexemes_line ls

-- what a line says, or its lowest code
unfoldable pub line_of : List ℕ → Result LineMeaning AsmCode
line_of line = line_if (lexemes_of (pieces line))
