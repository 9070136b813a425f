-- A line of numbers, as it is read from a place on.
use Rattle.std.proofs.Common.{◌≡◌, ℕ, List, [], ◌∷◌, ◌++◌, refl, drop, append_assoc, arith}
use Rattle.std.specs.Prelude.{Option, Some, None, Ok, ◌≤◌, length}
use Rattle.asm_lex.specs.Pieces.{pieces}
use Rattle.asm_lex.specs.Kinds.{Lexeme, name, number, comma, opening, closing, colon, plus, minus}
use Rattle.asm_lex.specs.Tokens.{IsNextKind}
use Rattle.asm_lex.specs.declared.asm_names.kinds.NumberWidth.{NumberWidth}
use Rattle.assemble.specs.Lexemes.{lexemes_of}
use Rattle.assemble.specs.Lines.{label_first, line_of}
use Rattle.assemble.specs.Meanings.{numbers}
use Rattle.assemble.specs.NumberLines.{lexemes_after, BeginsNumbers, HasSize, HasNumber, HasValues}
use Rattle.assemble.specs.Numbers.{unsigned, negated, numbers_of, with_first}
use Rattle.assemble.specs.Steps.{stored, values_by}
use Rattle.assemble.specs.declared.asm_line.operands.SignedNumber.{SignedNumber}
use Rattle.assemble.proofs.NumberLists.{list_step, numbers_are}

-- the lexemes from a token on
next_lexeme : (line : List ℕ) (from end : ℕ) (l : Lexeme) (ls : List Lexeme) → IsNextKind line from (Some l) end → lexemes_after line end ≡ Some ls
    → lexemes_after line from ≡ Some (l ∷ ls)
next_lexeme line from end l ls token after = rw (token.cut, token.is, after) refl

pub bare_number : (line : List ℕ) (from end : ℕ) (size : Option ℕ) (text : List ℕ) → IsNextKind line from (Some (number size text)) end
    → HasNumber line from (unsigned size) end
bare_number line from end size text token = record {
  after = token.after;
  in_range = token.in_range;
  begins = λ ls after. record {
    lexemes = number size text ∷ ls;
    are = next_lexeme line from end (number size text) ls token after;
    step = refl;
  };
}

pub plus_number : (line : List ℕ) (from at end : ℕ) (size : Option ℕ) → IsNextKind line from (Some plus) at → HasSize line at size end
    → HasNumber line from (unsigned size) end
plus_number line from at end size sign found = record {
  after = omega (arith, sign.after, found.token.after);
  in_range = found.token.in_range;
  begins = λ ls after. record {
    lexemes = plus ∷ number size found.text ∷ ls;
    are = next_lexeme line from at plus _ sign (next_lexeme line at end (number size found.text) ls found.token after);
    step = refl;
  };
}

pub minus_number : (line : List ℕ) (from at end : ℕ) (size : Option ℕ) → IsNextKind line from (Some minus) at → HasSize line at size end
    → HasNumber line from (negated size) end
minus_number line from at end size sign found = record {
  after = omega (arith, sign.after, found.token.after);
  in_range = found.token.in_range;
  begins = λ ls after. record {
    lexemes = minus ∷ number size found.text ∷ ls;
    are = next_lexeme line from at minus _ sign (next_lexeme line at end (number size found.text) ls found.token after);
    step = refl;
  };
}

-- the last number
nothing_left : (line : List ℕ) (end : ℕ) → pieces (drop end line) ≡ [] → lexemes_after line end ≡ Some []
nothing_left line end none = rw none refl

pub last_value : (width : NumberWidth) (line : List ℕ) (from end : ℕ) (n : SignedNumber) (v : ℕ) → HasNumber line from n end → stored width n ≡ Ok v
    → pieces (drop end line) ≡ [] → HasValues width line from (v ∷ [])
last_value width line from end n v found is none =
    let begins = found.begins [] (nothing_left line end none) in
    record {
      lexemes = begins.lexemes;
      are = begins.are;
      values_are = rw (list_step begins.lexemes, begins.step, is) refl;
    }

-- a number before a comma and more numbers
more_values : (width : NumberWidth) (n : SignedNumber) (v : ℕ) (vs : List ℕ) (rest : Option (List SignedNumber)) → stored width n ≡ Ok v
    → values_by width rest ≡ Ok vs → values_by width (with_first n rest) ≡ Ok (v ∷ vs)
more_values width n v vs None is after = absurd (cc)
more_values width n v vs (Some ns) is after = rw (is, after) refl

pub first_value : (width : NumberWidth) (line : List ℕ) (from end after : ℕ) (n : SignedNumber) (v : ℕ) (vs : List ℕ) → HasNumber line from n end
    → stored width n ≡ Ok v → IsNextKind line end (Some comma) after → HasValues width line after vs → HasValues width line from (v ∷ vs)
first_value width line from end after n v vs found is mark rest =
    let begins = found.begins (comma ∷ rest.lexemes) (next_lexeme line end after comma rest.lexemes mark rest.are) in
    record {
      lexemes = begins.lexemes;
      are = begins.are;
      values_are = rw (list_step begins.lexemes, begins.step) (more_values width n v vs (numbers_of rest.lexemes) is rest.values_are);
    }

-- the values that were found, and those that are left
pub record ReadTo (width : NumberWidth) (line : List ℕ) (from : ℕ) (front : List ℕ) (at : ℕ) : Type 0 where
  pub in_range : at ≤ length line
  pub whole : (vs : List ℕ) → HasValues width line at vs → HasValues width line from (front ++ vs)

pub read_start : (width : NumberWidth) (line : List ℕ) (from : ℕ) → from ≤ length line → ReadTo width line from [] from
read_start width line from inside = record { in_range = inside; whole = λ vs has. has }

pub read_more : (width : NumberWidth) (line : List ℕ) (from at end after : ℕ) (front : List ℕ) (n : SignedNumber) (v : ℕ) → ReadTo width line from front at
    → HasNumber line at n end → stored width n ≡ Ok v → IsNextKind line end (Some comma) after → ReadTo width line from (front ++ v ∷ []) after
read_more width line from at end after front n v so_far found is mark = record {
  in_range = mark.in_range;
  whole = λ vs has. rw (append_assoc front (v ∷ []) vs) (so_far.whole (v ∷ vs) (first_value width line at end after n v vs found is mark has));
}

pub read_last : (width : NumberWidth) (line : List ℕ) (from at end : ℕ) (front : List ℕ) (n : SignedNumber) (v : ℕ) → ReadTo width line from front at
    → HasNumber line at n end → stored width n ≡ Ok v → pieces (drop end line) ≡ [] → HasValues width line from (front ++ v ∷ [])
read_last width line from at end front n v so_far found is none = so_far.whole (v ∷ []) (last_value width line at end n v found is none)

-- numbers are no colon and what follows it
no_label : (width : NumberWidth) (text : List ℕ) (ls : List Lexeme) (vs : List ℕ) → values_by width (numbers_of ls) ≡ Ok vs → label_first (name text ∷ ls) ≡ None
unfolding numbers_of
no_label width text [] vs h = refl
no_label width text (name t ∷ ls) vs h = refl
no_label width text (number m u ∷ ls) vs h = refl
no_label width text (comma ∷ ls) vs h = refl
no_label width text (opening ∷ ls) vs h = refl
no_label width text (closing ∷ ls) vs h = refl
no_label width text (colon ∷ ls) vs h = absurd (cc)
no_label width text (plus ∷ ls) vs h = refl
no_label width text (minus ∷ ls) vs h = refl

-- a line of a directive and numbers
pub numbers_said : (width : NumberWidth) (line : List ℕ) (end : ℕ) (vs : List ℕ) → BeginsNumbers line width end → HasValues width line end vs
    → line_of line ≡ Ok (record { label = None; meaning = numbers width vs })
unfolding line_of
numbers_said width line end vs begins has =
    let all : lexemes_of (pieces line) ≡ Some (name begins.text ∷ has.lexemes) = next_lexeme line 0 end (name begins.text) has.lexemes begins.token has.are in
    let no_name : label_first (name begins.text ∷ has.lexemes) ≡ None = no_label width begins.text has.lexemes vs has.values_are in
    rw (all, no_name, begins.is, numbers_are width has.lexemes vs has.values_are) refl
