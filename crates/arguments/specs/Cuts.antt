-- The texts that say how many power cuts in recovery are looked at: a number from 1 to 64, and `any`.
use Rattle.std.specs.Prelude.{◌≡◌, ◌≤◌, Option, Some, None, codes, ⊤}
use Rattle.clap.specs.Words.{Text}
use Rattle.arguments.specs.Values.{IsDecimal}
use Rattle.arguments.specs.declared.asked.MostCuts.{MostCuts}
use Rattle.arguments.specs.declared.asked.MostCuts.TheVariants.{AtMost, Any}

abbrev pub IsMostCuts : Text → MostCuts → Type 0
IsMostCuts text (AtMost most) = IsDecimal 1 64 text most
IsMostCuts text Any = text ≡ codes "any"

-- that of the value of an option that may be left out
abbrev pub IsOptionalCuts : Option Text → Option MostCuts → Type 0
IsOptionalCuts None cuts = cuts ≡ None
IsOptionalCuts (Some text) cuts = (c : MostCuts) × (cuts ≡ Some c) × IsMostCuts text c

-- a number of cuts is from 1 to 64
abbrev pub AreFewCuts : MostCuts → Type 0
AreFewCuts (AtMost most) = (1 ≤ most) × (most ≤ 64)
AreFewCuts Any = ⊤
