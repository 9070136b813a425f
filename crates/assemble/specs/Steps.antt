-- What the steps of reading a line find.
use Rattle.std.specs.Prelude.{◌≡◌, ℕ, ◌+◌, length, List, [], ◌∷◌, Option, Some, None, Result, Ok, Err, map}
use Rattle.asm_lex.specs.Kinds.{Lexeme, comma, lexeme_of}
use Rattle.asm_lex.specs.declared.Kind.{Kind}
use Rattle.assemble.specs.declared.asm_line.fault.AsmCode.{AsmCode}
use Rattle.assemble.specs.declared.asm_line.fault.AsmCode.TheVariants.{Operands}
use Rattle.assemble.specs.declared.asm_line.line.Statement.{Statement}
use Rattle.assemble.specs.declared.asm_line.operands.SignedNumber.{SignedNumber}
use Rattle.assemble.specs.declared.asm_line.operands.Target.{Target as FoundTarget}
use Rattle.assemble.specs.declared.asm_line.operands.Target.TheVariants as targets
use Rattle.assemble.specs.declared.asm_line.range.Range.{Range}
use Rattle.assemble.specs.AsmLineFaults.{◌>>=◌, Fails}
use Rattle.assemble.specs.Grammar.{Target, to_label, by_distance, Interval, from_to, number_range}
use Rattle.assemble.specs.Meanings.{Meaning, meaning_of, width_of, IsInRange}
use Rattle.assemble.specs.Numbers.{numbers_of, with_first, within}
use Rattle.asm_lex.specs.declared.asm_names.kinds.NumberWidth.{NumberWidth}
use Rattle.std.specs.Borrow.{Bor}
use Rattle.std.specs.Int.{cast_unsigned}

-- the lexemes of tokens
abbrev pub all_seen : List Kind → List Lexeme
all_seen ks = map lexeme_of ks

abbrev pub target_seen : FoundTarget → Target
target_seen (targets.Label text) = to_label text.now
target_seen (targets.Distance n) = by_distance n

-- a step of the code gives what a step of the grammar does, seen like this
abbrev pub Gives : {A B : Type 0} → (A → B) → Result A AsmCode → Result B AsmCode → Type 0
Gives view (Ok a) r = r ≡ Ok (view a)
Gives view (Err e) r = r ≡ Err e

-- what a line's step answers: a statement that is said so, in its range, or the code, unless memory was refused
abbrev pub Says : Result Statement AsmCode → Result Meaning AsmCode → Type 0
Says (Ok s) r = (r ≡ Ok (meaning_of s)) × IsInRange (meaning_of s)
Says (Err code) r = Fails code r

abbrev pub interval : Range → Interval
interval range = from_to range.low range.high

-- the numbers that are left to read: none after the last one
abbrev pub numbers_left : Option (Bor (List Kind)) → Option (List SignedNumber)
numbers_left None = Some []
numbers_left (Some rest) = numbers_of (all_seen rest.now)

-- the numbers from one on, where more have to stand after a comma
abbrev pub numbers_after : SignedNumber → List Lexeme → Option (List SignedNumber)
numbers_after n [] = Some (n ∷ [])
numbers_after n (comma ∷ ls) = with_first n (numbers_of ls)
numbers_after n ls = None

abbrev pub numbers_from : Option (SignedNumber × List Lexeme) → Option (List SignedNumber)
numbers_from None = None
numbers_from (Some (n, ls)) = numbers_after n ls

-- how much is left to read
abbrev pub left_len : Option (Bor (List Kind)) → ℕ
left_len None = 0
left_len (Some rest) = 1 + length rest.now

-- a number of a directive, modulo its width
abbrev pub stored : NumberWidth → SignedNumber → Result ℕ AsmCode
stored width n = within n (number_range width).low (number_range width).high >>= λ z. Ok (cast_unsigned (width_of width) z)

abbrev pub stored_all : NumberWidth → List SignedNumber → Result (List ℕ) AsmCode
stored_all width [] = Ok []
stored_all width (n ∷ ns) = do
  v ← stored width n
  vs ← stored_all width ns
  Ok (v ∷ vs)

-- the values of numbers that may be no list, or the lowest code
abbrev pub values_by : NumberWidth → Option (List SignedNumber) → Result (List ℕ) AsmCode
values_by width None = Err Operands
values_by width (Some ns) = stored_all width ns

-- the lowest code of a number out of its range and of the numbers after it, which may be no list
abbrev pub lowest_code : AsmCode → Option (List SignedNumber) → AsmCode
lowest_code code None = Operands
lowest_code code (Some ns) = code
