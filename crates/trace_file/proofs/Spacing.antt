-- The words of a text of place words, one after another.
use Rattle.std.proofs.Common.{◌≡◌, ◌∙◌, ◌==◌, ℕ, Bool, true, false, not, List, [], ◌∷◌, ◌++◌, ap, refl, sym, append_assoc}
use Rattle.std.specs.Prelude.{◌≢◌, All}
use Rattle.std.specs.List.{flat_map, list_all}
use Rattle.std.proofs.lemmas.Bool.{and_parts, eqb-true}
use Rattle.std.proofs.lemmas.List.{append-nil}
use Rattle.std.proofs.lemmas.List.Elements.{All-cons, All-nil}
use Rattle.std.proofs.lemmas.List.Splits.{slice_split_at, slice_split_none}
use Rattle.trace_file.specs.Cuts.{IsCutAt}
use Rattle.trace_file.specs.Spaced.{spaced_word, spaced_words}

abbrev is_blank : ℕ → Bool
is_blank byte = byte == 32

abbrev NoBlank : ℕ → Type 0
NoBlank byte = is_blank byte ≡ false

none_of : (b : Bool) → not b ≡ true → b ≡ false
none_of true e = absurd cc
none_of false e = refl

no_blanks : (xs : List ℕ) → list_all (λ byte. not (byte == 32)) xs ≡ true → All NoBlank xs
no_blanks [] e = All-nil NoBlank
no_blanks (x ∷ xs) e =
    let (here, rest) = and_parts (not (x == 32)) (list_all (λ byte. not (byte == 32)) xs) e in
    All-cons NoBlank x xs (none_of (x == 32) here) (no_blanks xs rest)

other : (x : ℕ) (xs : List ℕ) (b : Bool) → (x == 32) ≡ b → ((front back : List ℕ) → x ∷ xs ≢ front ++ 32 ∷ back) → NoBlank x
other x xs true e none = absurd (none [] xs (ap (λ (byte : ℕ). byte ∷ xs) (eqb-true x 32 e)))
other x xs false e none = e

all_others : (xs : List ℕ) → ((front back : List ℕ) → xs ≢ front ++ 32 ∷ back) → All NoBlank xs
all_others [] none = All-nil NoBlank
all_others (x ∷ xs) none =
    All-cons NoBlank x xs (other x xs (x == 32) refl none) (all_others xs (λ front back e. none (x ∷ front) back (ap (λ (t : List ℕ). x ∷ t) e)))

-- what is told so far, and what the rest still tells, is what the whole text tells
pub one_more_spaced : (with_steps : Bool) (place rest front back words more : List ℕ) → IsCutAt 32 rest front back
    → words ++ spaced_words with_steps rest ≡ spaced_words with_steps place → more ≡ words ++ spaced_word with_steps front
    → more ++ spaced_words with_steps back ≡ spaced_words with_steps place
one_more_spaced with_steps place rest front back words more cut so_far is =
    let parted : spaced_words with_steps rest ≡ spaced_word with_steps front ++ spaced_words with_steps back =
    ap (λ (t : List ℕ). spaced_words with_steps t) cut.whole
    ∙ ap (flat_map (spaced_word with_steps)) (slice_split_at is_blank front 32 back (no_blanks front cut.first) refl) in
    ap (λ (t : List ℕ). t ++ spaced_words with_steps back) is
    ∙ append_assoc words (spaced_word with_steps front) (spaced_words with_steps back)
    ∙ ap (λ (t : List ℕ). words ++ t) (sym parted)
    ∙ so_far

pub all_spaced : (with_steps : Bool) (place rest words more : List ℕ) → ((front back : List ℕ) → rest ≢ front ++ 32 ∷ back)
    → words ++ spaced_words with_steps rest ≡ spaced_words with_steps place → more ≡ words ++ spaced_word with_steps rest
    → more ≡ spaced_words with_steps place
all_spaced with_steps place rest words more none so_far is =
    let alone : spaced_words with_steps rest ≡ spaced_word with_steps rest =
    ap (flat_map (spaced_word with_steps)) (slice_split_none is_blank rest (all_others rest none)) ∙ append-nil (spaced_word with_steps rest) in
    is ∙ ap (λ (t : List ℕ). words ++ t) (sym alone) ∙ so_far
