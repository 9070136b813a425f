-- The texts that name moments of a run: `A-B`, `A-` to the last one, and `A` alone.
use Rattle.std.specs.Prelude.{◌≡◌, ◌≤◌, ◌<◌, ◌^◌, ◌⊎◌, ◌++◌, ℕ, IfSome, Option, Some, None, codes}
use Rattle.clap.specs.Words.{Text}
use Rattle.arguments.specs.Values.{IsDecimal}
use Rattle.arguments.specs.declared.asked.Moments.{Moments}

-- a decimal number below 2^32
abbrev pub IsMoment : Text → ℕ → Type 0
IsMoment text moment = IsDecimal 0 4294967295 text moment

-- what stands behind the dash
abbrev pub IsEnd : Text → Moments → Type 0
IsEnd text moments = ((text ≡ codes "") × (moments.last ≡ None))
    ⊎ ((last : ℕ) × (moments.last ≡ Some last) × IsMoment text last × (moments.first ≤ last))

-- one moment to another, or to the last one
pub record IsSpan (text : Text) (moments : Moments) : Type 0 where
  pub first_digits : Text
  pub end_text : Text
  pub spelled : text ≡ first_digits ++ (codes "-" ++ end_text)
  pub first : IsMoment first_digits moments.first
  pub end : IsEnd end_text moments

-- one moment alone
pub record IsOne (text : Text) (moments : Moments) : Type 0 where
  pub first : IsMoment text moments.first
  pub last : moments.last ≡ Some moments.first

abbrev pub IsMoments : Text → Moments → Type 0
IsMoments text moments = IsOne text moments ⊎ IsSpan text moments

-- those of the value of an option that may be left out
abbrev pub IsOptionalMoments : Option Text → Option Moments → Type 0
IsOptionalMoments None moments = moments ≡ None
IsOptionalMoments (Some text) moments = (m : Moments) × (moments ≡ Some m) × IsMoments text m

-- the last one isn't before the first
abbrev pub IsUpward : Moments → Type 0
IsUpward moments = (moments.first < 2 ^ 32) × IfSome moments.last (λ last. (moments.first ≤ last) × (last < 2 ^ 32))
