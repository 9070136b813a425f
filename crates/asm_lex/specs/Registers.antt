-- The names of registers and of sets of accesses.
-- Source: RISC-V Unprivileged ISA 20191213, chapter 25 ("RISC-V Assembly Programmer's Handbook"), and chapter 2 ("Memory
-- Ordering Instructions") for the sets.
use Rattle.std.specs.Prelude.{◌≡◌, ℕ, zero, suc, ◌/◌, ◌%◌, Bool, true, false, ◌&&◌, List, [], ◌∷◌, ◌++◌, Option, Some, None, nat_eq, nat_lt, nat_le, length, ◌==◌, if◌then◌else◌, codes, find, map, refl}
use Rattle.std.proofs.Common.{ltb-true}
use Rattle.std.specs.Option.{option_or, option_and_then}
use Rattle.std.specs.Borrow.{Bor}
use Rattle.std.specs.Cmp.Lexicographic.{pointwise}
use Rattle.std.specs.Str.Parse.{digits_value}
use Rattle.asm_lex.specs.Kinds.{is_decimal}
use Rattle.isa_table.specs.declared.access.AccessSet.{AccessSet}
use Rattle.isa_table.specs.declared.register.Reg.{Reg}

-- a name and what it stands for
pub record Row (A : Type 0) : Type 0 where
  pub name : List ℕ
  pub value : A

abbrev pub row : {A : Type 0} → List ℕ → A → Row A
row name value = record { name = name; value = value }

-- what a text stands for, where it is one of these names
abbrev pub named : {A : Type 0} → List (Row A) → List ℕ → Option A
named [] text = None
named (r ∷ rows) text = if pointwise nat_eq text r.name then Some r.value else named rows text

-- the rows of a table of the code
abbrev pub rows_of : {A : Type 0} → List (Bor (List ℕ) × A) → List (Row A)
rows_of rows = map (λ r. row r.0.now r.1) rows

-- the numbers of the registers that the calling convention names
unfoldable pub convention_number : List ℕ → Option ℕ
convention_number text = named (
    row (codes "zero") 0 ∷ row (codes "ra") 1 ∷ row (codes "sp") 2 ∷ row (codes "gp") 3 ∷ row (codes "tp") 4
    ∷ row (codes "t0") 5 ∷ row (codes "t1") 6 ∷ row (codes "t2") 7
    ∷ row (codes "s0") 8 ∷ row (codes "fp") 8 ∷ row (codes "s1") 9
    ∷ row (codes "a0") 10 ∷ row (codes "a1") 11 ∷ row (codes "a2") 12 ∷ row (codes "a3") 13
    ∷ row (codes "a4") 14 ∷ row (codes "a5") 15 ∷ row (codes "a6") 16 ∷ row (codes "a7") 17
    ∷ row (codes "s2") 18 ∷ row (codes "s3") 19 ∷ row (codes "s4") 20 ∷ row (codes "s5") 21 ∷ row (codes "s6") 22
    ∷ row (codes "s7") 23 ∷ row (codes "s8") 24 ∷ row (codes "s9") 25 ∷ row (codes "s10") 26 ∷ row (codes "s11") 27
    ∷ row (codes "t3") 28 ∷ row (codes "t4") 29 ∷ row (codes "t5") 30 ∷ row (codes "t6") 31
    ∷ []) text

-- the number that one or two decimal digits write, without a needless leading zero
unfoldable pub short_number : List ℕ → Option ℕ
short_number digits = if is_decimal digits && nat_le (length digits) 2 then Some (digits_value 10 digits) else None

-- the number after an `x`, which is 120
unfoldable pub plain_number : List ℕ → Option ℕ
plain_number [] = None
plain_number (b ∷ digits) = if b == 120 then short_number digits else None

-- the number of the register that a name stands for
unfoldable pub register_number : List ℕ → Option ℕ
register_number text = option_or (plain_number text) (convention_number text)

-- the register of a number, which is below 32
abbrev pub register_if : (number : ℕ) (below : Bool) → nat_lt number 32 ≡ below → Option Reg
register_if number true below = Some (record { number = number; in_range = ltb-true number 32 below })
register_if number false below = None

unfoldable pub register : ℕ → Option Reg
register number = register_if number (nat_lt number 32) refl

-- the register that a name stands for
unfoldable pub register_of : List ℕ → Option Reg
register_of text = option_and_then register (register_number text)

-- a letter, where it is there
abbrev pub letter : ℕ → Bool → List ℕ
letter b true = b ∷ []
letter b false = []

-- the letters of a set's accesses: `i`, `o`, `r` and `w` in that order
abbrev pub letters : AccessSet → List ℕ
letters set =
    letter 105 set.device_input
    ++ letter 111 set.device_output
    ++ letter 114 set.memory_reads
    ++ letter 119 set.memory_writes

-- the text of a set: its letters, and `0`, which is 48, for none
abbrev pub or_zero : List ℕ → List ℕ
or_zero [] = 48 ∷ []
or_zero (b ∷ bs) = b ∷ bs

abbrev pub set_text : AccessSet → List ℕ
set_text set = or_zero (letters set)

-- the set whose bits, from the letter `i` down to `w`, write a number below 16
abbrev pub set_of_bits : ℕ → AccessSet
set_of_bits n = record {
  device_input = n / 8 % 2 == 1;
  device_output = n / 4 % 2 == 1;
  memory_reads = n / 2 % 2 == 1;
  memory_writes = n % 2 == 1;
}

-- the sets of the numbers below n
abbrev pub sets_below : ℕ → List AccessSet
sets_below zero = []
sets_below (suc n) = set_of_bits n ∷ sets_below n

-- the set that a text stands for: the one of the sixteen that has this text
unfoldable pub set_of : List ℕ → Option AccessSet
set_of text = find (λ set. pointwise nat_eq text (set_text set)) (sets_below 16)

-- x0, which is always zero, and ra, which is x1 and holds the return address
abbrev pub zero_register : Reg
zero_register = record { number = 0; in_range = ltb-true 0 32 refl }

abbrev pub return_register : Reg
return_register = record { number = 1; in_range = ltb-true 1 32 refl }

-- the set of all accesses
abbrev pub all_accesses : AccessSet
all_accesses = record { device_input = true; device_output = true; memory_reads = true; memory_writes = true }
