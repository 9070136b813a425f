-- Numbers between commas, and their values.
use Rattle.std.proofs.Common.{◌≡◌, ℕ, true, List, [], ◌∷◌, ◌++◌, map, refl, sym, ap, ◌∙◌, append_assoc, arith}
use Rattle.std.proofs.lemmas.Bool.Decides.{nat_tests}
use Rattle.std.specs.Prelude.{Option, Some, None, Result, Ok, Err, option_map, ◌≤◌, ℤ}
use Rattle.std.specs.Int.{cast_unsigned, is_power_of_two}
use Rattle.assemble.specs.AsmLineFaults.{◌>>=◌, Fails}
use Rattle.assemble.specs.Grammar.{built, checked, integers_of, number_range, parts, statement_of, with_numbers}
use Rattle.asm_lex.specs.Kinds.{Lexeme, name, number, comma, opening, closing, colon, plus, minus}
use Rattle.assemble.specs.Meanings.{numbers, width_of}
use Rattle.assemble.specs.Numbers.{number_then, numbers_of, with_first, unsigned, negated, within}
use Rattle.assemble.specs.Steps.{lowest_code, numbers_after, numbers_from, stored, stored_all, values_by}
use Rattle.std.proofs.lemmas.Nat.{ones_le_self}
use Rattle.std.proofs.lemmas.List.{append-nil}
use Rattle.assemble.specs.declared.asm_line.fault.AsmCode.{AsmCode}
use Rattle.assemble.specs.declared.asm_line.fault.AsmCode.TheVariants.{Operands}
use Rattle.asm_lex.specs.declared.asm_names.mnemonic.Mnemonic.TheVariants.{Numbers}
use Rattle.asm_lex.specs.declared.asm_names.kinds.NumberWidth.{NumberWidth}
use Rattle.assemble.specs.declared.asm_line.operands.SignedNumber.{SignedNumber}

step_bare : (size : Option ℕ) (text : List ℕ) (rest : List Lexeme) → numbers_of (number size text ∷ rest) ≡ numbers_after (unsigned size) rest
unfolding numbers_of
step_bare size text [] = refl
step_bare size text (name t ∷ ls) = refl
step_bare size text (number m u ∷ ls) = refl
step_bare size text (comma ∷ ls) = refl
step_bare size text (opening ∷ ls) = refl
step_bare size text (closing ∷ ls) = refl
step_bare size text (colon ∷ ls) = refl
step_bare size text (plus ∷ ls) = refl
step_bare size text (minus ∷ ls) = refl

step_plus : (size : Option ℕ) (text : List ℕ) (rest : List Lexeme) → numbers_of (plus ∷ number size text ∷ rest) ≡ numbers_after (unsigned size) rest
unfolding numbers_of
step_plus size text [] = refl
step_plus size text (name t ∷ ls) = refl
step_plus size text (number m u ∷ ls) = refl
step_plus size text (comma ∷ ls) = refl
step_plus size text (opening ∷ ls) = refl
step_plus size text (closing ∷ ls) = refl
step_plus size text (colon ∷ ls) = refl
step_plus size text (plus ∷ ls) = refl
step_plus size text (minus ∷ ls) = refl

step_minus : (size : Option ℕ) (text : List ℕ) (rest : List Lexeme) → numbers_of (minus ∷ number size text ∷ rest) ≡ numbers_after (negated size) rest
unfolding numbers_of
step_minus size text [] = refl
step_minus size text (name t ∷ ls) = refl
step_minus size text (number m u ∷ ls) = refl
step_minus size text (comma ∷ ls) = refl
step_minus size text (opening ∷ ls) = refl
step_minus size text (closing ∷ ls) = refl
step_minus size text (colon ∷ ls) = refl
step_minus size text (plus ∷ ls) = refl
step_minus size text (minus ∷ ls) = refl

step_after_plus : (rest : List Lexeme) → numbers_of (plus ∷ rest) ≡ numbers_from (number_then (plus ∷ rest))
unfolding numbers_of
step_after_plus [] = refl
step_after_plus (name t ∷ ls) = refl
step_after_plus (number m u ∷ ls) = step_plus m u ls
step_after_plus (comma ∷ ls) = refl
step_after_plus (opening ∷ ls) = refl
step_after_plus (closing ∷ ls) = refl
step_after_plus (colon ∷ ls) = refl
step_after_plus (plus ∷ ls) = refl
step_after_plus (minus ∷ ls) = refl

step_after_minus : (rest : List Lexeme) → numbers_of (minus ∷ rest) ≡ numbers_from (number_then (minus ∷ rest))
unfolding numbers_of
step_after_minus [] = refl
step_after_minus (name t ∷ ls) = refl
step_after_minus (number m u ∷ ls) = step_minus m u ls
step_after_minus (comma ∷ ls) = refl
step_after_minus (opening ∷ ls) = refl
step_after_minus (closing ∷ ls) = refl
step_after_minus (colon ∷ ls) = refl
step_after_minus (plus ∷ ls) = refl
step_after_minus (minus ∷ ls) = refl

pub list_step : (ls : List Lexeme) → numbers_of ls ≡ numbers_from (number_then ls)
unfolding numbers_of
list_step [] = refl
list_step (name t ∷ ls) = refl
list_step (number m u ∷ ls) = step_bare m u ls
list_step (comma ∷ ls) = refl
list_step (opening ∷ ls) = refl
list_step (closing ∷ ls) = refl
list_step (colon ∷ ls) = refl
list_step (plus ∷ ls) = step_after_plus ls
list_step (minus ∷ ls) = step_after_minus ls

-- the values that were made, and those that are left
abbrev pub onto : List ℕ → Result (List ℕ) AsmCode → Result (List ℕ) AsmCode
onto front (Ok vs) = Ok (front ++ vs)
onto front (Err e) = Err e

onto_none : (all : Result (List ℕ) AsmCode) → onto [] all ≡ all
onto_none (Ok vs) = refl
onto_none (Err e) = refl

stored_more : (front : List ℕ) (v : ℕ) (rest : Result (List ℕ) AsmCode) → onto (front ++ v ∷ []) rest ≡ onto front (rest >>= λ vs. Ok (v ∷ vs))
stored_more front v (Ok vs) = ap Ok (append_assoc front (v ∷ []) vs)
stored_more front v (Err e) = refl

-- the value of a number is that of its integer
joined_values : (width : NumberWidth) (z : Result ℤ AsmCode) (zs : Result (List ℤ) AsmCode)
    → ((z >>= λ a. Ok (cast_unsigned (width_of width) a)) >>= λ v. (zs >>= λ bs. Ok (map (cast_unsigned (width_of width)) bs)) >>= λ vs. Ok (v ∷ vs))
    ≡ ((z >>= λ a. zs >>= λ bs. Ok (a ∷ bs)) >>= λ bs. Ok (map (cast_unsigned (width_of width)) bs))
joined_values width (Ok a) (Ok bs) = refl
joined_values width (Ok a) (Err e) = refl
joined_values width (Err e) zs = refl

pub values_of_integers : (width : NumberWidth) (ns : List SignedNumber) → stored_all width ns ≡ (integers_of (number_range width) ns >>= λ zs. Ok (map (cast_unsigned (width_of width)) zs))
values_of_integers width [] = refl
values_of_integers width (n ∷ ns) = rw (values_of_integers width ns) (joined_values width (within n (number_range width).low (number_range width).high) (integers_of (number_range width) ns))

-- a power of two is not zero
pub some_power : (n : ℕ) → is_power_of_two n ≡ true → 1 ≤ n
some_power n e = grind (arith, nat_tests, ones_le_self)

-- one number more
stored_on : (width : NumberWidth) (n : SignedNumber) (ns : List SignedNumber) (v : ℕ) (front : List ℕ) (all : Result (List ℕ) AsmCode)
    → stored width n ≡ Ok v → onto front (stored_all width (n ∷ ns)) ≡ all → onto (front ++ v ∷ []) (stored_all width ns) ≡ all
stored_on width n ns v front all is h = stored_more front v (stored_all width ns) ∙ rw is at h

-- the values of all numbers, of which these were made and those are left
abbrev pub values_left : NumberWidth → List ℕ → Option (List SignedNumber) → Result (List ℕ) AsmCode
values_left width front None = Err Operands
values_left width front (Some ns) = onto front (stored_all width ns)

none_made : (width : NumberWidth) (all : Option (List SignedNumber)) → values_left width [] all ≡ values_by width all
none_made width None = refl
none_made width (Some ns) = onto_none (stored_all width ns)

pub values_start : (width : NumberWidth) (here all : Option (List SignedNumber)) → here ≡ all → values_left width [] here ≡ values_by width all
values_start width here all e = none_made width here ∙ ap (values_by width) e

pub values_go_on : (width : NumberWidth) (front : List ℕ) (n : SignedNumber) (v : ℕ) (here rest : Option (List SignedNumber)) (all : Result (List ℕ) AsmCode)
    → here ≡ with_first n rest → stored width n ≡ Ok v → values_left width front here ≡ all → values_left width (front ++ v ∷ []) rest ≡ all
values_go_on width front n v here None all e is h = rw e at h
values_go_on width front n v here (Some ns) all e is h = stored_on width n ns v front all is (rw e at h)

pub values_end : (width : NumberWidth) (front : List ℕ) (here : Option (List SignedNumber)) (all : Result (List ℕ) AsmCode)
    → here ≡ Some [] → values_left width front here ≡ all → all ≡ Ok front
values_end width front here all e h = sym (rw e at h) ∙ ap Ok (append-nil front)

-- what stands next is no list, or its number is out of range
pub values_none : (width : NumberWidth) (front : List ℕ) (here : Option (List SignedNumber)) (all : Result (List ℕ) AsmCode)
    → here ≡ None → values_left width front here ≡ all → all ≡ Err Operands
values_none width front here all e h = sym (rw e at h)

pub values_fault : (width : NumberWidth) (front : List ℕ) (n : SignedNumber) (code : AsmCode) (here rest : Option (List SignedNumber)) (all : Result (List ℕ) AsmCode)
    → here ≡ with_first n rest → stored width n ≡ Err code → values_left width front here ≡ all → all ≡ Err (lowest_code code rest)
values_fault width front n code here None all e is h = sym (rw e at h)
values_fault width front n code here (Some ns) all e is h =
    let whole : onto front (stored_all width (n ∷ ns)) ≡ all = rw e at h in
    sym (rw is at whole)

-- the code of a number out of range, as far as what follows is read
pub code_goes_on : (code : AsmCode) (n : SignedNumber) (here rest : Option (List SignedNumber)) (all : AsmCode)
    → here ≡ with_first n rest → lowest_code code here ≡ all → lowest_code code rest ≡ all
code_goes_on code n here None all e h = rw e at h
code_goes_on code n here (Some ns) all e h = rw e at h

pub code_ends : (code : AsmCode) (here : Option (List SignedNumber)) (all : AsmCode) → here ≡ None → lowest_code code here ≡ all → Operands ≡ all
code_ends code here all e h = rw e at h

-- what a directive of numbers says
with_integers : (width : NumberWidth) (zs : Result (List ℤ) AsmCode)
    → ((zs >>= λ is. Ok (parts [] is [] [])) >>= λ p. built (Numbers width) p)
    ≡ ((zs >>= λ is. Ok (map (cast_unsigned (width_of width)) is)) >>= λ vs. Ok (numbers width vs))
with_integers width (Ok is) = refl
with_integers width (Err e) = refl

with_list : (width : NumberWidth) (found : Option (List SignedNumber))
    → (checked (number_range width) (option_map with_numbers found) >>= λ p. built (Numbers width) p)
    ≡ (values_by width found >>= λ vs. Ok (numbers width vs))
with_list width None = refl
with_list width (Some ns) = rw (values_of_integers width ns) (with_integers width (integers_of (number_range width) ns))

numbers_said : (width : NumberWidth) (ls : List Lexeme) → statement_of (Numbers width) ls ≡ (values_by width (numbers_of ls) >>= λ vs. Ok (numbers width vs))
unfolding statement_of
numbers_said width ls = with_list width (numbers_of ls)

pub numbers_are : (width : NumberWidth) (ls : List Lexeme) (vs : List ℕ) → values_by width (numbers_of ls) ≡ Ok vs → statement_of (Numbers width) ls ≡ Ok (numbers width vs)
numbers_are width ls vs h = rw (numbers_said width ls, h) refl

pub numbers_fail : (width : NumberWidth) (ls : List Lexeme) (code : AsmCode) → Fails code (values_by width (numbers_of ls)) → Fails code (statement_of (Numbers width) ls)
numbers_fail width ls code h = λ other. rw (numbers_said width ls, h other) refl
