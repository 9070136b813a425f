-- A line of mixed images, by its number.
use Rattle.std.proofs.Common.{◌≡◌, ◌≢◌, ℕ, ◌==◌, Bool, false, cond, List, length, sym, ap, ◌∙◌, arith}
use Rattle.line_memory.specs.Lines.{line_at}
use Rattle.verdict_tests.specs.Mixed.{mixed, mixed_line}

pub first_line : (lines others : List (List ℕ)) (cut : ℕ → ℕ) (n number : ℕ) (bytes : List ℕ) → length others ≡ length lines → cut n ≡ number → number ≡ 0 →
    bytes ≡ line_at lines n → bytes ≡ line_at (mixed lines others cut) n
first_line lines others cut n number bytes size same none b =
    b ∙ sym (mixed_line lines others cut n size ∙ ap (λ (k : ℕ). cond (k == 0) (line_at lines n) (line_at others n)) (same ∙ none))

pub second_line : (lines others : List (List ℕ)) (cut : ℕ → ℕ) (n number : ℕ) (bytes : List ℕ) → length others ≡ length lines → cut n ≡ number → number ≢ 0 →
    bytes ≡ line_at others n → bytes ≡ line_at (mixed lines others cut) n
second_line lines others cut n number bytes size same some b =
    let test : (number == 0) ≡ false = grind (arith, some) in
    b ∙ sym (mixed_line lines others cut n size ∙ ap (λ (k : ℕ). cond (k == 0) (line_at lines n) (line_at others n)) same
    ∙ ap (λ (t : Bool). cond t (line_at lines n) (line_at others n)) test)
