-- The codes of lines.
use Rattle.std.specs.Prelude.{◌≡◌, ◌≢◌, ℕ, nat_le, Result, Ok, Err, if◌then◌else◌}
use Rattle.asm_lex.specs.declared.LexFault.{LexFault}
use Rattle.asm_lex.specs.declared.LexFault.TheVariants.{BadToken as BadTokenFault, Memory as MemoryFault}
use Rattle.assemble.specs.declared.asm_line.fault.AsmCode.{AsmCode}
use Rattle.assemble.specs.declared.asm_line.fault.AsmCode.TheVariants.{BadToken, Mnemonic, Operands, Register, Range, UnknownLabel, LabelTwice, WrongSection, TooLarge, Memory}

-- the code of a line that has no tokens
abbrev pub code_of_lex : LexFault → AsmCode
code_of_lex BadTokenFault = BadToken
code_of_lex MemoryFault = Memory

-- the number in a code's name
abbrev pub code_number : AsmCode → ℕ
code_number BadToken = 1
code_number Mnemonic = 2
code_number Operands = 3
code_number Register = 4
code_number Range = 5
code_number UnknownLabel = 6
code_number LabelTwice = 7
code_number WrongSection = 8
code_number TooLarge = 9
code_number Memory = 10

abbrev pub lower : AsmCode → AsmCode → AsmCode
lower a b = if nat_le (code_number a) (code_number b) then a else b

-- a step, and then the next one, unless the first has a fault
infixl 10 ◌>>=◌
abbrev pub ◌>>=◌ : {A B : Type 0} → Result A AsmCode → (A → Result B AsmCode) → Result B AsmCode
Ok a >>= next = next a
Err code >>= next = Err code

-- two parts of a line, or the lowest code of their faults
abbrev pub both : {A B : Type 0} → Result A AsmCode → Result B AsmCode → Result (A × B) AsmCode
both (Ok a) (Ok b) = Ok (a, b)
both (Ok a) (Err f) = Err f
both (Err e) (Ok b) = Err e
both (Err e) (Err f) = Err (lower e f)

-- the code is that of a line, unless memory was refused, which says nothing of the line
abbrev pub Fails : {A : Type 0} → AsmCode → Result A AsmCode → Type 0
Fails code r = code ≢ Memory → r ≡ Err code
