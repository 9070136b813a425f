-- The addresses that words stand for, and why a word stands for none.
use Rattle.std.proofs.Common.{◌≡◌, ◌∙◌, ◌+◌, ◌-◌, ◌<◌, ◌≤◌, ◌^◌, ◌++◌, ℕ, List, [], ◌∷◌, codes, drop, get_or, length, take, refl, sym, ap, subst, arith, inl, inr, Option, Some, None, MatchOption}
use Rattle.std.proofs.lemmas.Bool.{cases_lt}
use Rattle.std.proofs.lemmas.List.{take_all}
use Rattle.std.proofs.lemmas.Option.{some_pair_parts}
use Rattle.std.specs.Str.Parse.{IsNumeral, digits_value}
use Rattle.assemble.specs.Labels.{place_at}
use Rattle.assemble.specs.declared.labels.Labels.{Labels}
use Rattle.elf_file.specs.FunctionSymbols.{FunctionSymbol}
use Rattle.elf_file.specs.Functions.{address_of}
use Rattle.elf_file.specs.Lines.{HasLine, HasNoPc, IsFirstPc, file_line, line_at}
use Rattle.elf_file.specs.SourceRows.{KnownRow}
use Rattle.report.specs.Addresses.{HasNoAddress, IsAtLine, IsAtOffset, IsBehind, IsLabelled, IsLineNumber, IsOfFunction, SaysNoOffset, SaysOffset, StandsFor, parted, two_parts}
use Rattle.text.specs.Numbers.{IsOf, Writes}
use Rattle.text.specs.declared.numbers.Number.{Number}
use Rattle.text.specs.declared.numbers.Number.TheVariants.{Small, Large}

-- a word is parted in one way
same_front : (parts : Option (List ℕ × List ℕ)) (a b x y : List ℕ) → parts ≡ two_parts a x → parts ≡ two_parts b y → a ≡ b
same_front parts a b x y p q = (some_pair_parts a b x y (sym p ∙ q)).0

same_back : (parts : Option (List ℕ × List ℕ)) (a b x y : List ℕ) → parts ≡ two_parts a x → parts ≡ two_parts b y → x ≡ y
same_back parts a b x y p q = (some_pair_parts a b x y (sym p ∙ q)).1

not_parted : (parts : Option (List ℕ × List ℕ)) (front back : List ℕ) → parts ≡ two_parts front back → parts ≡ None → ⊥
not_parted parts front back p q = absurd cc

no_address : (found : Option ℕ) (address : ℕ) → None ≡ found → found ≡ Some address → ⊥
no_address found address p q = absurd cc

-- ---- labels

pub unplaced : (labels : Labels) (word : List ℕ) → None ≡ place_at labels word → HasNoAddress (IsLabelled labels word)
unplaced labels word none = λ address small stands. no_address (place_at labels word) address none stands

-- ---- lines

pub no_number : (digits : List ℕ) (line : ℕ) → ¬ (IsNumeral 10 digits × (digits_value 10 digits < 2 ^ 32)) → IsLineNumber digits line → ⊥
no_number digits line none number = none (number.numeral, subst (λ (n : ℕ). n < 2 ^ 32) number.value number.small)

line_there : (rows : List KnownRow) (file : List ℕ) (line other address at : ℕ) → HasLine rows file line address → address ≡ 0x1_0000 + at → line ≡ other
    → HasLine rows file other (0x1_0000 + at)
line_there rows file line other address at there here same =
    ap (λ (pc : ℕ). line_at rows pc) (sym here) ∙ there ∙ ap (λ (n : ℕ). file_line file n) same

pub at_number : (rows : List KnownRow) (file digits : List ℕ) (line : ℕ) (found : Option ℕ) → IsNumeral 10 digits × (digits_value 10 digits < 2 ^ 32)
    → line ≡ digits_value 10 digits → MatchOption found (HasNoPc rows file line 0x1_0000) (IsFirstPc rows file line)
    → MatchOption found ((line address : ℕ) → IsLineNumber digits line → ¬ (IsFirstPc rows file line address))
    (λ address. (line : ℕ) × IsLineNumber digits line × IsFirstPc rows file line address)
at_number rows file digits line (Some address) said is first =
    (line, record { numeral = said.0; value = is; small = subst (λ (n : ℕ). n < 2 ^ 32) (sym is) said.1 }, first)
at_number rows file digits line None said is none =
    λ other address number first.
    none first.at first.within (line_there rows file other line address first.at first.line_there first.address (number.value ∙ sym is))

pub by_line : (rows : List KnownRow) (functions : List FunctionSymbol) (word file digits : List ℕ) (found : Option ℕ)
    → two_parts file digits ≡ parted 58 word
    → MatchOption found ((line address : ℕ) → IsLineNumber digits line → ¬ (IsFirstPc rows file line address))
    (λ address. (line : ℕ) × IsLineNumber digits line × IsFirstPc rows file line address)
    → MatchOption found (HasNoAddress (StandsFor rows functions word)) (StandsFor rows functions word)
by_line rows functions word file digits (Some address) spelled of =
    inl (record { file = file; digits = digits; line = of.0; spelled = sym spelled; number = of.1; first = of.2 })
by_line rows functions word file digits None spelled none =
    λ address small stands. elim stands [
      | inl at ↦
          let front : at.file ≡ file = same_front (parted 58 word) at.file file at.digits digits at.spelled (sym spelled) in
          let back : at.digits ≡ digits = same_back (parted 58 word) at.file file at.digits digits at.spelled (sym spelled) in
          none at.line address (subst (λ (l : List ℕ). IsLineNumber l at.line) back at.number)
          (subst (λ (l : List ℕ). IsFirstPc rows l at.line address) front at.first)
      | inr other ↦ not_parted (parted 58 word) file digits (sym spelled) other.0
    ]

-- ---- functions

pub by_function : (rows : List KnownRow) (functions : List FunctionSymbol) (word : List ℕ) (found : Option ℕ) → None ≡ parted 58 word
    → MatchOption found (HasNoAddress (IsOfFunction functions word)) (IsOfFunction functions word)
    → MatchOption found (HasNoAddress (StandsFor rows functions word)) (StandsFor rows functions word)
by_function rows functions word (Some address) alone of = inr (sym alone, of)
by_function rows functions word None alone none =
    λ address small stands. elim stands [
      | inl at ↦ not_parted (parted 58 word) at.file at.digits at.spelled (sym alone)
      | inr other ↦ none address small other.1
    ]

same_name : (word name other : List ℕ) (offset value : ℕ) → SaysOffset word name offset → SaysOffset word other value → name ≡ other
same_name word name other offset value a b =
    same_front (parted 43 word) name other (codes "0x" ++ a.digits) (codes "0x" ++ b.digits) a.spelled b.spelled

same_offset : (word name other : List ℕ) (offset value : ℕ) → SaysOffset word name offset → SaysOffset word other value → offset ≡ value
same_offset word name other offset value a b =
    let back : codes "0x" ++ a.digits ≡ codes "0x" ++ b.digits =
    same_back (parted 43 word) name other (codes "0x" ++ a.digits) (codes "0x" ++ b.digits) a.spelled b.spelled in
    let digits : a.digits ≡ b.digits = ap (λ (l : List ℕ). drop 2 l) back in
    a.value ∙ ap (λ (l : List ℕ). digits_value 16 l) digits ∙ sym b.value

pub by_offset : (functions : List FunctionSymbol) (word name : List ℕ) (offset : ℕ) (found : Option ℕ) → SaysOffset word name offset
    → MatchOption found (HasNoAddress (IsBehind functions name offset)) (IsBehind functions name offset)
    → MatchOption found (HasNoAddress (IsOfFunction functions word)) (IsOfFunction functions word)
by_offset functions word name offset (Some address) says behind = inl (record { name = name; offset = offset; says = says; behind = behind })
by_offset functions word name offset None says none =
    λ address small of. elim of [
      | inl at ↦
          let named : IsBehind functions name at.offset address =
          subst (λ (l : List ℕ). IsBehind functions l at.offset address) (same_name word at.name name at.offset offset at.says says) at.behind in
          none address small (subst (λ (n : ℕ). IsBehind functions name n address) (same_offset word at.name name at.offset offset at.says says) named)
      | inr alone ↦ alone.0 name offset says
    ]

pub by_name : (functions : List FunctionSymbol) (word : List ℕ) (found : Option ℕ) → SaysNoOffset word → found ≡ address_of functions word
    → MatchOption found (HasNoAddress (IsOfFunction functions word)) (IsOfFunction functions word)
by_name functions word (Some address) alone is = inr (alone, sym is)
by_name functions word None alone is =
    λ address small of. elim of [
      | inl at ↦ alone at.name at.offset at.says
      | inr found ↦ no_address (address_of functions word) address is found.1
    ]

-- an offset of 2^64 and more is behind each address
pub far_behind : (functions : List FunctionSymbol) (name : List ℕ) (value address : ℕ) → 2 ^ 64 ≤ value → address < 2 ^ 64
    → IsBehind functions name value address → ⊥
far_behind functions name value address far small behind = absurd (omega (arith, behind.address_is))

pub behind_none : (functions : List FunctionSymbol) (name : List ℕ) (value address : ℕ) → None ≡ address_of functions name
    → IsBehind functions name value address → ⊥
behind_none functions name value address none behind = no_address (address_of functions name) behind.start none behind.begins

same_start : (found : Option ℕ) (start other : ℕ) → Some start ≡ found → found ≡ Some other → start ≡ other
same_start found start other p q = cc

pub behind_start : (functions : List FunctionSymbol) (name : List ℕ) (start offset value : ℕ) → Some start ≡ address_of functions name → offset ≡ value
    → IsBehind functions name value (start + offset)
behind_start functions name start offset value is same = record { start = start; begins = sym is; address_is = ap (λ (n : ℕ). start + n) same }

pub behind_past : (functions : List FunctionSymbol) (name : List ℕ) (start offset value address : ℕ) → Some start ≡ address_of functions name
    → offset ≡ value → 2 ^ 64 ≤ start + offset → address < 2 ^ 64 → IsBehind functions name value address → ⊥
behind_past functions name start offset value address is same past small behind =
    let begins : start ≡ behind.start = same_start (address_of functions name) start behind.start is behind.begins in
    absurd (omega (arith, behind.address_is))

-- ---- what a word says

-- `0x` and what is behind it
pub begun : (text : List ℕ) → 2 ≤ length text → get_or text 0 0 ≡ 48 → get_or text 1 0 ≡ 120 → text ≡ 48 ∷ 120 ∷ take (length text - 2) (drop 2 text)
begun [] long p q = absurd (omega arith)
begun (a ∷ []) long p q = absurd (omega arith)
begun (a ∷ b ∷ rest) long p q =
    let all : take (length (a ∷ b ∷ rest) - 2) rest ≡ rest = take_all (length (a ∷ b ∷ rest) - 2) rest (omega arith) in
    ap (λ (x : ℕ). x ∷ b ∷ rest) p ∙ ap (λ (y : ℕ). 48 ∷ y ∷ rest) q ∙ ap (λ (l : List ℕ). 48 ∷ 120 ∷ l) (sym all)

pub no_plus : (word name : List ℕ) (offset : ℕ) → None ≡ parted 43 word → SaysOffset word name offset → ⊥
no_plus word name offset none says = not_parted (parted 43 word) name (codes "0x" ++ says.digits) says.spelled (sym none)

text_is : (word front back name : List ℕ) (offset : ℕ) → two_parts front back ≡ parted 43 word → (says : SaysOffset word name offset)
    → back ≡ codes "0x" ++ says.digits
text_is word front back name offset parts says = same_back (parted 43 word) front name back (codes "0x" ++ says.digits) (sym parts) says.spelled

pub no_digits : (word front back name : List ℕ) (offset : ℕ) → two_parts front back ≡ parted 43 word
    → ((digits : List ℕ) → back ≡ 48 ∷ 120 ∷ digits → ⊥) → SaysOffset word name offset → ⊥
no_digits word front back name offset parts none says = none says.digits (text_is word front back name offset parts says)

pub no_numeral : (word front back digits name : List ℕ) (offset : ℕ) → two_parts front back ≡ parted 43 word → back ≡ 48 ∷ 120 ∷ digits
    → ¬ (IsNumeral 16 digits) → SaysOffset word name offset → ⊥
no_numeral word front back digits name offset parts is none says =
    let both : 48 ∷ 120 ∷ digits ≡ 48 ∷ 120 ∷ says.digits = sym is ∙ text_is word front back name offset parts says in
    let same : digits ≡ says.digits = ap (λ (l : List ℕ). drop 2 l) both in
    none (subst (λ (l : List ℕ). IsNumeral 16 l) (sym same) says.numeral)

pub offset_said : (word front back digits : List ℕ) (number : Number) → two_parts front back ≡ parted 43 word → back ≡ 48 ∷ 120 ∷ digits
    → Writes 16 digits number → (offset : ℕ) × SaysOffset word front offset × IsOf offset number
offset_said word front back digits number parts is writes = (
  digits_value 16 digits,
  record {
    digits = digits;
    spelled = sym parts ∙ ap (λ (l : List ℕ). two_parts front l) is;
    numeral = writes.numeral;
    value = refl;
  },
  writes.value,
)

-- ---- a word stands for one address at most

first_is_one : (rows : List KnownRow) (name : List ℕ) (line a b : ℕ) → IsFirstPc rows name line a → IsFirstPc rows name line b → a ≡ b
first_is_one rows name line a b p q =
    elim (cases_lt p.at q.at) [
      | inl less ↦ absurd (q.none_before p.at less (subst (λ (pc : ℕ). HasLine rows name line pc) p.address p.line_there))
      | inr past ↦ elim (cases_lt q.at p.at) [
        | inl less ↦ absurd (p.none_before q.at less (subst (λ (pc : ℕ). HasLine rows name line pc) q.address q.line_there))
        | inr other ↦
            let same : p.at ≡ q.at = omega arith in
            p.address ∙ ap (λ (n : ℕ). 0x1_0000 + n) same ∙ sym q.address
      ]
    ]

one_of_line : (rows : List KnownRow) (word : List ℕ) (a b : ℕ) → IsAtLine rows word a → IsAtLine rows word b → a ≡ b
one_of_line rows word a b p q =
    let file : p.file ≡ q.file = same_front (parted 58 word) p.file q.file p.digits q.digits p.spelled q.spelled in
    let digits : p.digits ≡ q.digits = same_back (parted 58 word) p.file q.file p.digits q.digits p.spelled q.spelled in
    let line : p.line ≡ q.line = p.number.value ∙ ap (λ (l : List ℕ). digits_value 10 l) digits ∙ sym q.number.value in
    let first : IsFirstPc rows p.file q.line a = subst (λ (n : ℕ). IsFirstPc rows p.file n a) line p.first in
    first_is_one rows q.file q.line a b (subst (λ (l : List ℕ). IsFirstPc rows l q.line a) file first) q.first

one_behind : (functions : List FunctionSymbol) (name : List ℕ) (offset a b : ℕ) → IsBehind functions name offset a → IsBehind functions name offset b → a ≡ b
one_behind functions name offset a b p q =
    let same : p.start ≡ q.start = same_start (address_of functions name) p.start q.start (sym p.begins) q.begins in
    p.address_is ∙ ap (λ (n : ℕ). n + offset) same ∙ sym q.address_is

one_of_function : (functions : List FunctionSymbol) (word : List ℕ) (a b : ℕ) → IsOfFunction functions word a → IsOfFunction functions word b → a ≡ b
one_of_function functions word a b (inl p) (inl q) =
    let named : IsBehind functions q.name p.offset a =
    subst (λ (l : List ℕ). IsBehind functions l p.offset a) (same_name word p.name q.name p.offset q.offset p.says q.says) p.behind in
    let moved : IsBehind functions q.name q.offset a =
    subst (λ (n : ℕ). IsBehind functions q.name n a) (same_offset word p.name q.name p.offset q.offset p.says q.says) named in
    one_behind functions q.name q.offset a b moved q.behind
one_of_function functions word a b (inl p) (inr q) = absurd (q.0 p.name p.offset p.says)
one_of_function functions word a b (inr p) (inl q) = absurd (p.0 q.name q.offset q.says)
one_of_function functions word a b (inr p) (inr q) = same_start (address_of functions word) a b (sym p.1) q.1

pub one_address : (rows : List KnownRow) (functions : List FunctionSymbol) (word : List ℕ) (a b : ℕ) → StandsFor rows functions word a
    → StandsFor rows functions word b → a ≡ b
one_address rows functions word a b (inl p) (inl q) = one_of_line rows word a b p q
one_address rows functions word a b (inl p) (inr q) = absurd (not_parted (parted 58 word) p.file p.digits p.spelled q.0)
one_address rows functions word a b (inr p) (inl q) = absurd (not_parted (parted 58 word) q.file q.digits q.spelled p.0)
one_address rows functions word a b (inr p) (inr q) = one_of_function functions word a b p.1 q.1
