-- The first line that has a code, as a pass over the lines finds it.
use Rattle.std.proofs.Common.{◌≡◌, ℕ, ◌+◌, ◌<◌, ◌≤◌, List, [], ◌∷◌, ◌++◌, length, refl, sym, ap, ◌∙◌, arith, append_assoc, le-ltb, lt-ltb}
use Rattle.std.specs.Prelude.{Some, None, reverse}
use mathlib.Core.List.{reverse_aux}
use Rattle.std.proofs.lemmas.List.{reverse-reverse, reverse-append}
use Rattle.asm_lex.specs.Lines.{lines_of, cut_at_feeds, without_returns}
use Rattle.assemble.specs.declared.asm_line.fault.AsmCode.{AsmCode}
use Rattle.assemble.specs.declared.asm_line.fault.AsmCode.TheVariants.{TooLarge}
use Rattle.assemble.specs.Lines.{line_of}
use Rattle.assemble.specs.declared.TheConstants.{SOURCE_LIMIT}
use Rattle.assemble.specs.Faults.{Codes, NoneHas, IsFirst, code_of_said, code_of_length, early_code}
use Rattle.assemble.specs.Assembly.{lines_back}
use Rattle.assemble.specs.Passes.{IsNext}

-- lines before a line, last first, and the lines from it on
pub aux_is : {A : Type 0} → (xs ys : List A) → reverse_aux xs ys ≡ reverse xs ++ ys
aux_is [] ys = refl
aux_is (x ∷ xs) ys = aux_is xs (x ∷ ys) ∙ sym (append_assoc (reverse xs) (x ∷ []) ys) ∙ ap (λ r. r ++ ys) (sym (aux_is xs (x ∷ [])))

split_at : {A : Type 0} → (later earlier all : List A) → reverse_aux later earlier ≡ reverse all → all ≡ reverse earlier ++ later
split_at later earlier all e =
    sym (reverse-reverse all)
    ∙ ap reverse (sym e ∙ aux_is later earlier)
    ∙ reverse-append (reverse later) earlier
    ∙ ap (λ r. reverse earlier ++ r) (reverse-reverse later)

pub next_start : (source : List ℕ) → IsNext source source 1 []
next_start source = record { split = refl; number_is = refl; counted = omega arith }

pub next_step : (source rest line after : List ℕ) (number : ℕ) (earlier : List (List ℕ))
    → lines_of rest ≡ line ∷ lines_of after → length after < length rest
    → IsNext source rest number earlier → IsNext source after (number + 1) (line ∷ earlier)
next_step source rest line after number earlier cut shorter next =
    let is = next.number_is in
    let below = next.counted in
    record {
      split = sym (ap (λ ls. reverse_aux ls earlier) cut) ∙ next.split;
      number_is = omega arith;
      counted = omega arith;
    }

pub next_end : (source : List ℕ) (rest : List ℕ) (number : ℕ) (earlier : List (List ℕ)) → rest ≡ [] → IsNext source rest number earlier → earlier ≡ lines_back source
unfolding lines_of cut_at_feeds without_returns
next_end source rest number earlier empty next = sym (ap (λ r. reverse_aux (lines_of r) earlier) empty) ∙ next.split

pub next_first : (code_of : Codes) (source rest line after : List ℕ) (number : ℕ) (earlier : List (List ℕ)) (code : AsmCode)
    → lines_of rest ≡ line ∷ lines_of after → code_of earlier line ≡ Some code → NoneHas code_of earlier
    → IsNext source rest number earlier → IsFirst code_of (lines_of source) (record { line = number; code = code })
next_first code_of source rest line after number earlier code cut here before next = record {
  earlier = earlier;
  line = line;
  later = lines_of after;
  split = split_at (line ∷ lines_of after) earlier (lines_of source) (sym (ap (λ ls. reverse_aux ls earlier) cut) ∙ next.split);
  number = next.number_is;
  code = here;
  before = before;
}

-- the code of a line, in a source within its limit
within_limit : (size : ℕ) (earlier : List (List ℕ)) → size ≤ SOURCE_LIMIT → code_of_length size earlier ≡ None
within_limit size [] fits = rw (le-ltb SOURCE_LIMIT size fits) refl
within_limit size (line ∷ earlier) fits = refl

pub early_none : (size : ℕ) (earlier : List (List ℕ)) (line : List ℕ) → size ≤ SOURCE_LIMIT → code_of_said earlier (line_of line) ≡ None → early_code size earlier line ≡ None
unfolding early_code
early_none size earlier line fits none = rw (none, within_limit size earlier fits) refl

pub early_some : (size : ℕ) (earlier : List (List ℕ)) (line : List ℕ) (code : AsmCode) → code_of_said earlier (line_of line) ≡ Some code → early_code size earlier line ≡ Some code
unfolding early_code
early_some size earlier line code some = rw some refl

-- the first line of a source past its limit is too large, where it has no lower code
pub long_none : (size : ℕ) (line : List ℕ) → SOURCE_LIMIT < size → code_of_said [] (line_of line) ≡ None → early_code size [] line ≡ Some TooLarge
unfolding early_code
long_none size line long none = rw (none, lt-ltb SOURCE_LIMIT size long) refl

pub first_line : (source line rest : List ℕ) (code : AsmCode) → lines_of source ≡ line ∷ lines_of rest → early_code (length source) [] line ≡ Some code
    → IsFirst (early_code (length source)) (lines_of source) (record { line = 1; code = code })
first_line source line rest code cut has = record {
  earlier = [];
  line = line;
  later = lines_of rest;
  split = cut;
  number = refl;
  code = has;
  before = tt;
}
