-- The operands of instructions, as they are written and read.
use Rattle.std.proofs.Common.{◌≡◌, ℕ, zero, suc, ◌^◌, ◌<◌, ◌≤◌, Bool, true, false, not, ◌||◌, List, [], ◌∷◌, ◌++◌, length, get_or, refl, sym, ap, arith, append_assoc, add-one}
use Rattle.std.specs.Prelude.{Some, Ok, ℤ, pos, negsuc, int_le, unsigned_abs, codes, decimal, ◌==◌, nat_lt, nat_le}
use Rattle.std.specs.List.{list_all}
use Rattle.std.specs.Char.{digit_value}
use Rattle.std.specs.Fmt.{signed_decimal}
use Rattle.std.specs.Str.Parse.{AllDigits}
use Rattle.std.proofs.lemmas.Bool.Decides.{nat_tests}
use Rattle.std.proofs.lemmas.Fmt.{decimal_is_IsNumeral, decimal_digit, first_decimal, length-decimal-le}
use Rattle.asm_lex.specs.Pieces.{is_word, is_blank, begins_word}
use Rattle.asm_lex.specs.Kinds.{are_digits, is_decimal, in_word, number_of, kind_of, mark_of}
use Rattle.asm_lex.specs.Kinds.{Lexeme, name, number, opening, closing, colon, plus, minus}
use Rattle.asm_lex.proofs.Spelling.{is_word-decimal, kind_of-decimal}
use Rattle.isa_table.specs.declared.access.AccessSet.{AccessSet}
use Rattle.isa_table.specs.declared.register.Reg.{Reg}
use Rattle.assemble.specs.Grammar.{by_distance, set_then, target_then}
use Rattle.assemble.specs.Numbers.{unsigned, negated, number_then, within, exact}
use Rattle.asm_lex.specs.Registers.{register_of, register_number, plain_number, short_number, set_of}
use Rattle.asm_lex.proofs.RegisterLemmas.{same_register}
use Rattle.decode.specs.Text.{register_text, address_text, place_text, distance_text, letters, set_text}
use Rattle.assemble.proofs.Tokens.{Writes, IsMark, run_writes, mark_then}

-- marks
open_mark : IsMark 40 opening
unfolding is_blank is_word kind_of mark_of
open_mark = record { no_comment = refl; no_blank = refl; no_word = refl; token = refl }

close_mark : IsMark 41 closing
unfolding is_blank is_word kind_of mark_of
close_mark = record { no_comment = refl; no_blank = refl; no_word = refl; token = refl }

plus_mark : IsMark 43 plus
unfolding is_blank is_word kind_of mark_of
plus_mark = record { no_comment = refl; no_blank = refl; no_word = refl; token = refl }

minus_mark : IsMark 45 minus
unfolding is_blank is_word kind_of mark_of
minus_mark = record { no_comment = refl; no_blank = refl; no_word = refl; token = refl }

-- no text, a mark before a text, and a text that begins no run after another one
empty_writes : Writes [] []
empty_writes = record { tokens = λ rest more end after. after }

marked : (b : ℕ) (text : List ℕ) (l : Lexeme) (ls : List Lexeme) → IsMark b l → Writes text ls → Writes (b ∷ text) (l ∷ ls)
marked b text l ls m w = record { tokens = λ rest more end after. mark_then b (text ++ rest) l (ls ++ more) m (w.tokens rest more end after) }

followed : (s t : List ℕ) (ls ms : List Lexeme) → Writes s ls → Writes t ms → ((rest : List ℕ) → begins_word (t ++ rest) ≡ false) → Writes (s ++ t) (ls ++ ms)
followed s t ls ms u v apart = record {
  tokens = λ rest more end after. rw (append_assoc s t rest, append_assoc ls ms more) (u.tokens (t ++ rest) (ms ++ more) (apart rest) (v.tokens rest more end after));
}

-- numbers
decimal_writes : (n : ℕ) → n < 2 ^ 64 → Writes (decimal n) (number (Some n) (decimal n) ∷ [])
decimal_writes n fits = run_writes (decimal n) (number (Some n) (decimal n)) (is_word-decimal n fits) (kind_of-decimal n fits)

abbrev pub signed_lexemes : ℤ → List Lexeme
signed_lexemes (pos n) = number (Some n) (decimal n) ∷ []
signed_lexemes (negsuc n) = minus ∷ number (Some (suc n)) (decimal (suc n)) ∷ []

pub signed_writes : (z : ℤ) → unsigned_abs z < 2 ^ 64 → Writes (signed_decimal z) (signed_lexemes z)
signed_writes (pos n) fits = decimal_writes n fits
signed_writes (negsuc n) fits = marked 45 (decimal (suc n)) minus _ minus_mark (decimal_writes (suc n) fits)

-- a number by its sign and its size
abbrev pub by_sign : {N : Type 0} → (ℕ → N) → (ℕ → N) → ℤ → N
by_sign above below (pos n) = above n
by_sign above below (negsuc n) = below (suc n)

pub number_reads : (z : ℤ) (rest : List Lexeme) → number_then (signed_lexemes z ++ rest) ≡ Some (by_sign (λ n. unsigned (Some n)) (λ n. negated (Some n)) z, rest)
number_reads (pos n) rest = refl
number_reads (negsuc n) rest = refl

pub number_ends : (z : ℤ) → number_then (signed_lexemes z) ≡ Some (by_sign (λ n. unsigned (Some n)) (λ n. negated (Some n)) z, [])
number_ends (pos n) = refl
number_ends (negsuc n) = refl

pub within_reads : (z low high : ℤ) → int_le low z ≡ true → int_le z high ≡ true → within (by_sign (λ n. unsigned (Some n)) (λ n. negated (Some n)) z) low high ≡ Ok z
within_reads (pos n) low high l h = rw (l, h) refl
within_reads (negsuc n) low high l h = rw (l, h) refl

pub exact_reads : (z : ℤ) → exact (by_sign (λ n. unsigned (Some n)) (λ n. negated (Some n)) z) ≡ Ok z
exact_reads (pos n) = refl
exact_reads (negsuc n) = refl

-- registers
digits_are : (ds : List ℕ) → AllDigits 10 ds → are_digits 10 ds ≡ true
unfolding are_digits
digits_are [] h = refl
digits_are (d ∷ ds) h =
    let below : nat_lt (digit_value d) 10 ≡ true = grind (arith, nat_tests, h.0) in
    rw (below) (digits_are ds h.1)

is_decimal-digits : (ds : List ℕ) → AllDigits 10 ds → 0 < length ds → (get_or ds 0 0 ≡ 48 → length ds ≡ 1) → is_decimal ds ≡ true
unfolding is_decimal
is_decimal-digits [] all some lone = absurd (omega arith)
is_decimal-digits (d ∷ ds) all some lone =
    let whole : (not (d == 48) || length ds == 0) ≡ true = grind (arith, nat_tests) in
    rw (digits_are (d ∷ ds) all, whole) refl

zero_lone : (n : ℕ) → n < 2 ^ 64 → get_or (decimal n) 0 0 ≡ 48 → length (decimal n) ≡ 1
zero_lone zero fits h = ap length (decimal_digit 0 (omega arith))
zero_lone (suc n) fits h = absurd (omega (arith, first_decimal (suc n) (omega arith) fits))

short_decimal : (n : ℕ) → n < 32 → short_number (decimal n) ≡ Some n
unfolding short_number
short_decimal n small =
    let fits : n < 2 ^ 64 = omega arith in
    let numeral = decimal_is_IsNumeral n fits in
    let short : nat_le (length (decimal n)) 2 ≡ true = grind (arith, nat_tests, length-decimal-le 2 n (omega arith) (omega arith) fits) in
    rw (is_decimal-digits (decimal n) numeral.0.1 numeral.0.0 (zero_lone n fits), short, numeral.1) refl

pub register_reads : (r : Reg) → register_of (register_text r) ≡ Some r
unfolding register_of register_number plain_number
register_reads r = rw (short_decimal r.number r.in_range) (sym (same_register r.number (Some r) ((λ some. r.in_range), (λ below. refl)) refl))

x_is_word : is_word 120 ≡ true
unfolding is_word
x_is_word = refl

x_names : (ds : List ℕ) → kind_of (120 ∷ ds) ≡ Some (name (120 ∷ ds))
unfolding kind_of is_word
x_names ds = refl

pub register_writes : (r : Reg) → Writes (register_text r) (name (register_text r) ∷ [])
register_writes r =
    let fits : r.number < 2 ^ 64 = omega (arith, r.in_range) in
    run_writes (register_text r) (name (register_text r)) (rw (x_is_word, is_word-decimal r.number fits) refl) (x_names (decimal r.number))

-- `(xN)` and `N(xN)`
abbrev pub address_lexemes : Reg → List Lexeme
address_lexemes r = opening ∷ name (register_text r) ∷ closing ∷ []

pub address_writes : (r : Reg) → Writes (address_text r) (address_lexemes r)
address_writes r = marked 40 (register_text r ++ 41 ∷ []) opening _ open_mark (followed (register_text r) (41 ∷ []) _ _ (register_writes r) (marked 41 [] closing [] close_mark empty_writes) (λ rest. close_mark.no_word))

pub place_writes : (z : ℤ) (r : Reg) → unsigned_abs z < 2 ^ 64 → Writes (place_text z r) (signed_lexemes z ++ address_lexemes r)
place_writes z r fits = followed (signed_decimal z) (address_text r) _ _ (signed_writes z fits) (address_writes r) (λ rest. open_mark.no_word)

-- `.+N` and `.-N`
abbrev pub distance_lexemes : ℤ → List Lexeme
distance_lexemes (pos n) = name (codes ".") ∷ plus ∷ number (Some n) (decimal n) ∷ []
distance_lexemes (negsuc n) = name (codes ".") ∷ minus ∷ number (Some (suc n)) (decimal (suc n)) ∷ []

dot_writes : Writes (codes ".") (name (codes ".") ∷ [])
unfolding is_word kind_of
dot_writes = run_writes (codes ".") (name (codes ".")) refl refl

pub distance_writes : (z : ℤ) → unsigned_abs z < 2 ^ 64 → Writes (distance_text z) (distance_lexemes z)
distance_writes (pos n) fits = followed (codes ".") (43 ∷ decimal n) _ _ dot_writes (marked 43 (decimal n) plus _ plus_mark (decimal_writes n fits)) (λ rest. plus_mark.no_word)
distance_writes (negsuc n) fits = rw add-one (followed (codes ".") (45 ∷ decimal (suc n)) _ _ dot_writes (marked 45 (decimal (suc n)) minus _ minus_mark (decimal_writes (suc n) fits)) (λ rest. minus_mark.no_word))

pub target_reads : (z : ℤ) → target_then (distance_lexemes z) ≡ Some (by_distance (by_sign (λ n. unsigned (Some n)) (λ n. negated (Some n)) z), [])
target_reads (pos n) = refl
target_reads (negsuc n) = refl

-- sets of accesses: a name, or the number 0
abbrev lexeme_of_letters : List ℕ → List ℕ → Lexeme
lexeme_of_letters [] text = number (Some 0) text
lexeme_of_letters (b ∷ bs) text = name text

abbrev pub set_lexeme : AccessSet → Lexeme
set_lexeme set = lexeme_of_letters (letters set) (set_text set)

abbrev pub is_colon : Lexeme → Bool
is_colon colon = true
is_colon l = false

pub record ReadsAsSet (set : AccessSet) : Type 0 where
  pub run : list_all is_word (set_text set) ≡ true
  pub token : kind_of (set_text set) ≡ Some (set_lexeme set)
  pub no_colon : is_colon (set_lexeme set) ≡ false
  pub short : length (set_text set) ≤ 44
  pub read : (rest : List Lexeme) → set_then (set_lexeme set ∷ rest) ≡ Some (set, rest)

abbrev set_with : Bool → Bool → Bool → Bool → AccessSet
set_with i o r w = record { device_input = i; device_output = o; memory_reads = r; memory_writes = w }

sixteen : (i o r w : Bool) → ReadsAsSet (set_with i o r w)
unfolding is_word kind_of number_of is_decimal are_digits in_word set_of
sixteen false false false false = record { run = refl; token = refl; no_colon = refl; short = omega arith; read = λ rest. refl }
sixteen false false false true = record { run = refl; token = refl; no_colon = refl; short = omega arith; read = λ rest. refl }
sixteen false false true false = record { run = refl; token = refl; no_colon = refl; short = omega arith; read = λ rest. refl }
sixteen false false true true = record { run = refl; token = refl; no_colon = refl; short = omega arith; read = λ rest. refl }
sixteen false true false false = record { run = refl; token = refl; no_colon = refl; short = omega arith; read = λ rest. refl }
sixteen false true false true = record { run = refl; token = refl; no_colon = refl; short = omega arith; read = λ rest. refl }
sixteen false true true false = record { run = refl; token = refl; no_colon = refl; short = omega arith; read = λ rest. refl }
sixteen false true true true = record { run = refl; token = refl; no_colon = refl; short = omega arith; read = λ rest. refl }
sixteen true false false false = record { run = refl; token = refl; no_colon = refl; short = omega arith; read = λ rest. refl }
sixteen true false false true = record { run = refl; token = refl; no_colon = refl; short = omega arith; read = λ rest. refl }
sixteen true false true false = record { run = refl; token = refl; no_colon = refl; short = omega arith; read = λ rest. refl }
sixteen true false true true = record { run = refl; token = refl; no_colon = refl; short = omega arith; read = λ rest. refl }
sixteen true true false false = record { run = refl; token = refl; no_colon = refl; short = omega arith; read = λ rest. refl }
sixteen true true false true = record { run = refl; token = refl; no_colon = refl; short = omega arith; read = λ rest. refl }
sixteen true true true false = record { run = refl; token = refl; no_colon = refl; short = omega arith; read = λ rest. refl }
sixteen true true true true = record { run = refl; token = refl; no_colon = refl; short = omega arith; read = λ rest. refl }

pub set_reads : (set : AccessSet) → ReadsAsSet set
set_reads set = sixteen set.device_input set.device_output set.memory_reads set.memory_writes

pub set_writes : (set : AccessSet) → Writes (set_text set) (set_lexeme set ∷ [])
set_writes set = run_writes (set_text set) (set_lexeme set) (set_reads set).run (set_reads set).token
