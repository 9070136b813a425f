-- What the first words of a line are, by the words that were found.
use Rattle.std.proofs.Common.{◌≡◌, ◌≢◌, ◌<◌, ◌≤◌, ◌^◌, ℕ, List, [], ◌∷◌, Option, Some, None, codes, refl, sym, ◌∙◌, ap, arith, subst}
use Rattle.std.specs.Prelude.{IfNone, IfSome, SomeIff}
use Rattle.std.specs.Str.Parse.{IsNumeral, digits_value}
use Rattle.nova_log.specs.declared.layout.Layout.{Layout}
use Rattle.nova_log.specs.declared.layout.Layout.TheVariants.{One, Two}
use Rattle.plan.specs.Grammar.{IsNumber, SaysCount, SaysLayout, layout_number}
use Rattle.plan.specs.Worded.{BeginsInode, BeginsWide, HoldsInode}

numeral_along : (a b : List ℕ) → a ≡ b → IsNumeral 10 a → IsNumeral 10 b
numeral_along a b e n = subst (λ (ds : List ℕ). IsNumeral 10 ds) e n

pub first_same : (words : List (List ℕ)) (a b : List ℕ) (x y : List (List ℕ)) → words ≡ a ∷ x → words ≡ b ∷ y → a ≡ b
first_same words a b x y e f = cc

pub rest_same : (words : List (List ℕ)) (a b : List ℕ) (x y : List (List ℕ)) → words ≡ a ∷ x → words ≡ b ∷ y → x ≡ y
rest_same words a b x y e f = cc

-- a number of 64 bits
pub wide_begins : (words rest : List (List ℕ)) (word : List ℕ) (number : ℕ) → words ≡ word ∷ rest
    → (IsNumeral 10 word × (digits_value 10 word < 2 ^ 64)) × (number ≡ digits_value 10 word) → BeginsWide words number rest
wide_begins words rest word number e n = record {
  digits = word;
  spelled = e;
  is_wide = record { is_number = record { numeral = n.0.0; value = n.1 }; wide = rw n.1 n.0.1 };
}

pub no_wide : (words rest : List (List ℕ)) (word : List ℕ) → words ≡ word ∷ rest → ¬ (IsNumeral 10 word × (digits_value 10 word < 2 ^ 64))
    → (number : ℕ) (more : List (List ℕ)) → ¬ (BeginsWide words number more)
no_wide words rest word e none number more b =
    let same : b.digits ≡ word = first_same words b.digits word more rest b.spelled e in
    let value : digits_value 10 word ≡ number = ap (digits_value 10) (sym same) ∙ sym b.is_wide.is_number.value in
    none (numeral_along b.digits word same b.is_wide.is_number.numeral, rw value b.is_wide.wide)

pub no_word : (words : List (List ℕ)) → words ≡ [] → (number : ℕ) (more : List (List ℕ)) → ¬ (BeginsWide words number more)
no_word words e number more b = let spelled : words ≡ b.digits ∷ more = b.spelled in cc

-- the number of an inode
held : (word : List ℕ) (found : Option ℕ) → IsNumeral 10 word → SomeIff found (IsNumeral 10 word × (digits_value 10 word < 2 ^ 32)) (digits_value 10 word)
    → HoldsInode found (digits_value 10 word)
held word None n f = λ small. f (n, small)
held word (Some inode) n f = (f.0.1, f.1)

pub inode_begins : (words rest : List (List ℕ)) (word : List ℕ) (found : Option ℕ) → words ≡ word ∷ rest → IsNumeral 10 word
    → SomeIff found (IsNumeral 10 word × (digits_value 10 word < 2 ^ 32)) (digits_value 10 word) → BeginsInode words found rest
inode_begins words rest word found e n f = record {
  digits = word;
  inode = digits_value 10 word;
  spelled = e;
  is_number = record { numeral = n; value = refl };
  holds = held word found n f;
}

pub no_inode : (words rest : List (List ℕ)) (word : List ℕ) → words ≡ word ∷ rest → ¬ (IsNumeral 10 word)
    → (digits : List ℕ) (inode : ℕ) (more : List (List ℕ)) → words ≡ digits ∷ more → ¬ (IsNumber digits inode)
no_inode words rest word e none digits inode more f n = none (numeral_along digits word (first_same words digits word more rest f e) n.numeral)

pub no_inode_word : (words : List (List ℕ)) → words ≡ [] → (digits : List ℕ) (inode : ℕ) (more : List (List ℕ)) → words ≡ digits ∷ more → ¬ (IsNumber digits inode)
no_inode_word words e digits inode more f n = cc

-- a keyword and a number
pub count_said : (keyword : List ℕ) (low high : ℕ) (words one : List (List ℕ)) (word : List ℕ) (found : Option ℕ) → words ≡ keyword ∷ one
    → one ≡ word ∷ [] → SomeIff found (IsNumeral 10 word × (low ≤ digits_value 10 word) × (digits_value 10 word ≤ high)) (digits_value 10 word)
    → IfSome found (SaysCount keyword low high words)
count_said keyword low high words one word None e f n = tt
count_said keyword low high words one word (Some count) e f n = record {
  digits = word;
  spelled = rw (e, f) refl;
  is_number = record { numeral = n.0.0; value = n.1 };
  least = rw n.1 n.0.1;
  most = rw n.1 n.0.2;
}

pub no_count : (keyword : List ℕ) (low high : ℕ) (words one : List (List ℕ)) (word : List ℕ) (found : Option ℕ) → words ≡ keyword ∷ one
    → one ≡ word ∷ [] → SomeIff found (IsNumeral 10 word × (low ≤ digits_value 10 word) × (digits_value 10 word ≤ high)) (digits_value 10 word)
    → IfNone found ((count : ℕ) → ¬ (SaysCount keyword low high words count))
no_count keyword low high words one word (Some found) e f n = tt
no_count keyword low high words one word None e f n = λ count s.
    let after : one ≡ s.digits ∷ [] = rest_same words keyword keyword one (s.digits ∷ []) e s.spelled in
    let same : s.digits ≡ word = first_same one s.digits word [] [] after f in
    let value : digits_value 10 word ≡ count = ap (digits_value 10) (sym same) ∙ sym s.is_number.value in
    n (numeral_along s.digits word same s.is_number.numeral, rw value s.least, rw value s.most)

pub no_keyword : (keyword : List ℕ) (low high : ℕ) (words : List (List ℕ)) → ((rest : List (List ℕ)) → words ≢ keyword ∷ rest)
    → (count : ℕ) → ¬ (SaysCount keyword low high words count)
no_keyword keyword low high words none count s = none (s.digits ∷ []) s.spelled

pub no_only_word : (keyword : List ℕ) (low high : ℕ) (words one : List (List ℕ)) → words ≡ keyword ∷ one → ((word : List ℕ) → one ≢ word ∷ [])
    → (count : ℕ) → ¬ (SaysCount keyword low high words count)
no_only_word keyword low high words one e none count s = none s.digits (rest_same words keyword keyword one (s.digits ∷ []) e s.spelled)

-- a layout
pub layout_one : (words : List (List ℕ)) (count : ℕ) → SaysCount (codes "layout") 1 2 words count → count ≡ 1 → SaysLayout words One
layout_one words count s e = subst (λ (n : ℕ). SaysCount (codes "layout") 1 2 words n) e s

pub layout_two : (words : List (List ℕ)) (count : ℕ) → SaysCount (codes "layout") 1 2 words count → count ≢ 1 → SaysLayout words Two
layout_two words count s other =
    let two : count ≡ 2 = omega (arith, s.least, s.most, other) in
    subst (λ (n : ℕ). SaysCount (codes "layout") 1 2 words n) two s

pub no_layout : (words : List (List ℕ)) → ((count : ℕ) → ¬ (SaysCount (codes "layout") 1 2 words count)) → (layout : Layout) → ¬ (SaysLayout words layout)
no_layout words none layout s = none (layout_number layout) s

-- what holds anyhow holds where nothing was found
pub if_none : {X : Type 0} (found : Option X) (P : Type 0) → P → IfNone found P
if_none None P p = p
if_none (Some x) P p = tt
