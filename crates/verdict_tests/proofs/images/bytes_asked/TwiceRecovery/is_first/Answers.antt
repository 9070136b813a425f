use Rattle.std.proofs.Common.{◌≡◌, ◌∙◌, ℕ, suc, ◌+◌, ◌-◌, ◌<◌, Bool, false, refl, sym, ap, arith}
use Rattle.verdict.specs.Branches.{none_of}
use Rattle.verdict_tests.specs.AskedAgain.{two_alike}
use Rattle.verdict_tests.proofs.images.bytes_asked.TwiceRecovery.is_first.Goals as goal

none_step : (holds : ℕ → Bool) (low n : ℕ) → low < n → holds low ≡ false → none_of holds low (n - low) ≡ none_of holds (low + 1) (n - (low + 1))
none_step holds low n less f =
    let more : ℕ = n - (low + 1) in
    let split : n - low ≡ suc more = omega (arith, less) in
    let passed : none_of holds low (suc more) ≡ none_of holds (low + 1) more = rw f refl in
    ap (λ (count : ℕ). none_of holds low count) split ∙ passed

pub loop-lower-preserved : goal.loop-lower-preserved
loop-lower-preserved c =
    let less : c.loop-lower.lower < c.args.number = (let t = c.loop-lower-test.true in omega (arith, t)) in (
      omega (arith, less),
      c.loop-lower.invariant.1
          ∙ none_step (λ m. two_alike c.args.self.now.first c.args.self.now.later c.args.asked m c.args.number) c.loop-lower.lower c.args.number less
          (sym c.is_alike.ensures ∙ c.if-is_alike.false),
    )
