-- The lines of a source, and their numbers.
use Rattle.std.proofs.Common.{◌≡◌, ◌∙◌, ℕ, ◌+◌, ◌-◌, ◌≤◌, Bool, true, false, List, [], ◌∷◌, ◌++◌, Option, Some, None, ap, length, refl, sym, arith, map, rules}
use Rattle.std.specs.Prelude.{IfSome, if◌then◌else◌, nat_le, nat_lt}
use Rattle.std.proofs.lemmas.List.{append-nil, append_assoc, map_push}
use Rattle.asm_lex.specs.Lines.{cut_at_feeds, lines_of, without_returns}
use Rattle.assemble.specs.LineNumbers.{lines_before, number_at, number_from}
use Rattle.assemble.specs.Places.{base_of}
use Rattle.asm_lex.specs.declared.asm_names.kinds.Section.TheVariants.{Text}
use Rattle.report.specs.Begun.{line_in}
use Rattle.report.specs.Places.{by_line}

-- one more line
pub lines_pushed : {X : Type 0} (text : X → List ℕ) (lines : List X) (line : X) (rest after source : List ℕ) → lines_of rest ≡ text line ∷ lines_of after
    → map text lines ++ lines_of rest ≡ lines_of source → map text (lines ++ line ∷ []) ++ lines_of after ≡ lines_of source
lines_pushed text lines line rest after source cut was =
    ap (λ (l : List (List ℕ)). l ++ lines_of after) (map_push text lines line)
    ∙ append_assoc (map text lines) (text line ∷ []) (lines_of after)
    ∙ ap (λ (l : List (List ℕ)). map text lines ++ l) (sym cut)
    ∙ was

no_more : (rest : List ℕ) → rest ≡ [] → lines_of rest ≡ []
unfolding lines_of without_returns cut_at_feeds
no_more rest none = rw none refl

pub lines_ended : {X : Type 0} (text : X → List ℕ) (lines : List X) (rest source : List ℕ) → rest ≡ []
    → map text lines ++ lines_of rest ≡ lines_of source → map text lines ≡ lines_of source
lines_ended text lines rest source none was =
    sym (append-nil (map text lines)) ∙ ap (λ (l : List (List ℕ)). map text lines ++ l) (sym (no_more rest none)) ∙ was

counted : (holds : Bool) (before : ℕ) → IfSome (if holds then Some (before + 1) else None) (λ number. 1 ≤ number)
counted true before = omega arith
counted false before = search rules

chosen : (holds : Bool) (number : Option ℕ) → IfSome number (λ n. 1 ≤ n) → IfSome (if holds then number else None) (λ n. 1 ≤ n)
chosen true number is = is
chosen false number is = search rules

-- lines are numbered from 1
pub from_one : (numbers : List ℕ) (address : ℕ) → IfSome (number_at numbers address) (λ number. 1 ≤ number)
unfolding number_at
from_one numbers address =
    let before = lines_before numbers (address - base_of Text) in
    chosen (nat_le (base_of Text) address) (number_from numbers (address - base_of Text)) (counted (nat_lt before (length numbers)) before)

-- what is known by a line's number gives the number
pub line_known : (number : Option ℕ) → line_in (by_line number) ≡ number
line_known None = refl
line_known (Some line) = refl
