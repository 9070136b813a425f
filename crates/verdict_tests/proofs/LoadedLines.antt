-- The lines that a reply names are among the first two.
use Rattle.std.proofs.Common.{◌<◌, ℕ, [], ◌∷◌, arith}
use Rattle.std.specs.Prelude.{Contains}
use Rattle.std.proofs.lemmas.List.Elements.{All-cons, All-contains, All-nil}

pub first_below : (line : ℕ) → Contains (0 ∷ []) line → line < 2
first_below line is =
    let P : ℕ → Type 0 = λ n. n < 2 in All-contains P (0 ∷ []) line (All-cons P 0 [] (omega arith) (All-nil P)) is

pub both_below : (line : ℕ) → Contains (0 ∷ 1 ∷ []) line → line < 2
both_below line is =
    let P : ℕ → Type 0 = λ n. n < 2 in
    All-contains P (0 ∷ 1 ∷ []) line (All-cons P 0 (1 ∷ []) (omega arith) (All-cons P 1 [] (omega arith) (All-nil P))) is
