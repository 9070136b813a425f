-- Which of two bad cuts is kept.
use Rattle.std.specs.Prelude.{◌≡◌, ◌⊎◌, ℕ, List, Option, Some, None}
use Rattle.verdict.specs.Branches.{ComesBefore}
use Rattle.verdict.specs.Numbers.{number_over}

-- Of a cut that was judged and the least bad one before it, the less that is bad is now the least, with its cause.
abbrev pub IsLess : {Cause : Type 0} → (ℕ → ℕ) → List ℕ → Option Cause → List ℕ → Option Cause → List ℕ → Option Cause → Type 0
IsLess low cut None kept least new result = (result ≡ least) × (new ≡ kept)
IsLess low cut (Some cause) kept None new result = (result ≡ Some cause) × (new ≡ cut)
IsLess low cut (Some cause) kept (Some other) new result =
    (ComesBefore (number_over low cut) (number_over low kept) × (result ≡ Some cause) × (new ≡ cut))
    ⊎ ((¬ ComesBefore (number_over low cut) (number_over low kept)) × (result ≡ Some other) × (new ≡ kept))
