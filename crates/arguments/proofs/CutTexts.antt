-- What a text doesn't say of power cuts in recovery.
use Rattle.std.proofs.Common.{◌≡◌, ℕ, Option, Some, None, codes, subst}
use Rattle.std.specs.Prelude.{◌≢◌, IfNone}
use Rattle.clap.specs.Words.{Text}
use Rattle.arguments.specs.Cuts.{IsMostCuts, IsOptionalCuts}
use Rattle.arguments.specs.Values.{IsDecimal}
use Rattle.arguments.specs.declared.asked.MostCuts.{MostCuts}
use Rattle.arguments.specs.declared.asked.MostCuts.TheVariants.{AtMost, Any}

-- neither a number from 1 to 64 nor `any`
pub no_cuts : (text : Text) → text ≢ codes "any" → ((n : ℕ) → ¬ IsDecimal 1 64 text n) → (other : MostCuts) → ¬ IsMostCuts text other
no_cuts text word number (AtMost most) says = number most says
no_cuts text word number Any says = word says

pub no_number : (text : Text) (found : Option MostCuts) → text ≢ codes "any" → IfNone found ((n : ℕ) → ¬ IsDecimal 1 64 text n)
    → IfNone found ((other : MostCuts) → ¬ IsMostCuts text other)
no_number text None word number = no_cuts text word number
no_number text (Some cuts) word number = tt

pub not_given : (found : Option Text) (text : Text) (cuts : Option MostCuts) → found ≡ Some text → ((other : MostCuts) → ¬ IsMostCuts text other)
    → ¬ IsOptionalCuts found cuts
not_given found text cuts e none is =
    let given : IsOptionalCuts (Some text) cuts = subst (λ (o : Option Text). IsOptionalCuts o cuts) e is in
    none given.0 given.2
