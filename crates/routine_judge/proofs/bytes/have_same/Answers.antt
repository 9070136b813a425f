use Rattle.std.proofs.Common.{◌≡◌, ◌∙◌, ◌+◌, ◌/◌, ◌%◌, ◌^◌, ◌<◌, ap, arith, eqb, false, sym, ℕ}
use Rattle.std.proofs.lemmas.Nat.{shr-shr}
use Rattle.routine_judge.proofs.Bytewise.{asked_below, same_eight, same_equal, same_unasked}
use Rattle.recovery.proofs.Bytewise.{same_past}
use Rattle.routine_judge.proofs.bytes.have_same.Goals as goal
use Rattle.routine_judge.proofs.bytes.have_same.Goals.{else-left-eq1-via-then-left-eq1+else-one-at, else-left-eq1-via-else-left-eq1}

pub loop-left-preserved : goal.loop-left-preserved
loop-left-preserved c =
    let i = c.loop-left.invariant in
    let bytes = c.args.bytes in
    let at = c.loop-left.at in
    let fits : bytes < 2 ^ 64 = c.ranges.bytes.fits in
    let below : at < 64 = asked_below bytes at fits (λ e. c.loop-left-test.true (i.0 ∙ e)) in
    let one = c.told-one in
    let other = c.told-other in (
      ap (λ (n : ℕ). n / 2) i.0 ∙ shr-shr bytes at 1,
      omega (arith, below),
      i.2 ∙ elim c.else-left-eq1.branch [
        | else-left-eq1-via-then-left-eq1+else-one-at w ↦
            same_equal bytes at 0 c.args.one.now c.args.other.now (omega (arith, below, one)) (omega (arith, below, other)) (let h = w.if-one-at.false in grind (arith, h))
        | else-left-eq1-via-else-left-eq1 w ↦
            same_unasked bytes at 0 c.args.one.now c.args.other.now (omega (arith, below, one)) (omega (arith, below, other))
            (let h = w.if-left-eq1.false in let e = i.0 in let f : eqb (c.loop-left.left % 2) 1 ≡ false = grind (arith, h) in ap (λ (n : ℕ). eqb (n % 2) 1) (sym e) ∙ f)
      ],
    )

pub returns : goal.returns
returns c = sym (c.loop-left.invariant.2 ∙ same_past c.args.bytes c.loop-left.at _ _ (sym c.loop-left.invariant.0 ∙ (let h = c.loop-left-test.false in omega (arith, h))))

pub loop-left-preserved-then-left-eq0 : goal.loop-left-preserved-then-left-eq0
loop-left-preserved-then-left-eq0 c =
    let i = c.loop-left.invariant in
    let bytes = c.args.bytes in
    let at = c.loop-left.at in
    let some = c.loop-left-test.true in
    let none : c.loop-left.left % 256 ≡ 0 = (let h = c.if-left-eq0.true in omega (arith, h)) in
    let left : c.loop-left.left / 256 ≡ bytes / 2 ^ (at + 8) = ap (λ (n : ℕ). n / 256) i.0 ∙ shr-shr bytes at 8 in
    let below : at + 8 < 64 = asked_below bytes (at + 8) c.ranges.bytes.fits (λ z. some (omega (arith, none, left, z))) in (
      left,
      omega (arith, below),
      i.2
          ∙ same_eight bytes at c.args.one.now c.args.other.now c.told-one c.told-other (omega (arith, below)) (sym (ap (λ (n : ℕ). n % 256) i.0) ∙ none),
    )
