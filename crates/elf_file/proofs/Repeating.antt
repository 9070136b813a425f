-- Things that are read one behind the other.
use Rattle.std.proofs.Common.{◌≡◌, ◌∙◌, ℕ, suc, ◌+◌, ◌-◌, ◌<◌, ◌≤◌, List, [], ◌∷◌, ◌++◌, Option, Some, None, option_and_then, option_map, refl, sym, ap, subst, arith}
use Rattle.std.proofs.lemmas.List.{append-nil, append_assoc}
use Rattle.elf_file.specs.Repeated.{repeated}

-- what is read, and the bytes behind it
abbrev pub one_read : {A : Type 0} → A → List ℕ → Option (A × List ℕ)
one_read one rest = Some (one, rest)

-- those that were read, and the rest of all
abbrev pub with_rest : {A : Type 0} → List A → Option (List A × List ℕ) → Option (List A × List ℕ)
with_rest front rest = option_map (λ more. (front ++ more.0, more.1)) rest

pushed : {A : Type 0} (front : List A) (one : A) (rest : Option (List A × List ℕ))
    → with_rest (front ++ one ∷ []) rest ≡ with_rest front (option_map (λ more. (one ∷ more.0, more.1)) rest)
pushed front one None = refl
pushed front one (Some more) = ap (λ (l : List _). Some (l, more.1)) (append_assoc front (one ∷ []) more.0)

-- one more
pub goes_on : {A : Type 0} (read : List ℕ → Option (A × List ℕ)) (front : List A) (one : A) (n count : ℕ) (rest behind : List ℕ)
    (all : Option (List A × List ℕ)) → n < count → one_read one behind ≡ read rest → with_rest front (repeated read (count - n) rest) ≡ all
    → with_rest (front ++ one ∷ []) (repeated read (count - (n + 1)) behind) ≡ all
goes_on read front one n count rest behind all less is eq =
    let e : count - n ≡ suc (count - (n + 1)) = omega arith in
    let was : with_rest front (repeated read (suc (count - (n + 1))) rest) ≡ all = subst (λ k. with_rest front (repeated read k rest) ≡ all) e eq in
    pushed front one (repeated read (count - (n + 1)) behind)
    ∙ ap (λ o. with_rest front (option_and_then (λ x. option_map (λ more. (x.0 ∷ more.0, more.1)) (repeated read (count - (n + 1)) x.1)) o)) is
    ∙ was

-- none where one was wanted
pub stops : {A : Type 0} (read : List ℕ → Option (A × List ℕ)) (front : List A) (n count : ℕ) (rest : List ℕ)
    (all : Option (List A × List ℕ)) → n < count → None ≡ read rest → with_rest front (repeated read (count - n) rest) ≡ all → None ≡ all
stops read front n count rest all less is eq =
    let e : count - n ≡ suc (count - (n + 1)) = omega arith in
    let was : with_rest front (repeated read (suc (count - (n + 1))) rest) ≡ all = subst (λ k. with_rest front (repeated read k rest) ≡ all) e eq in
    ap (λ o. with_rest front (option_and_then (λ x. option_map (λ more. (x.0 ∷ more.0, more.1)) (repeated read (count - (n + 1)) x.1)) o)) is
    ∙ was

-- all
pub is_done : {A : Type 0} (read : List ℕ → Option (A × List ℕ)) (front : List A) (n count : ℕ) (rest : List ℕ)
    (all : Option (List A × List ℕ)) → count ≤ n → with_rest front (repeated read (count - n) rest) ≡ all → one_read front rest ≡ all
is_done read front n count rest all past eq =
    let e : count - n ≡ 0 = omega arith in
    let was : with_rest front (repeated read 0 rest) ≡ all = subst (λ k. with_rest front (repeated read k rest) ≡ all) e eq in
    ap (λ (l : List _). Some (l, rest)) (sym (append-nil front)) ∙ was
