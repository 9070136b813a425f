use Rattle.std.proofs.Common.{◌≡◌, ◌+◌, ◌-◌, ◌^◌, ℕ, Bool, arith}
use Rattle.verdict.specs.Branches.{is_first, question}
use Rattle.verdict.proofs.Widening.{all_counted, at_most_all, none_counted, none_yet, one_counted}
use Rattle.verdict.proofs.moment_verdict.contents.contents.Goals as goal
use Rattle.verdict.proofs.moment_verdict.contents.contents.Goals.{then-is_first, else-is_first}

pub loop-below-init : goal.loop-below-init
loop-below-init g c =
    let r = g.R.Recovery in
    let s = c.args.recovery.now in
    let low : ℕ = r.low s c.args.line in
    let floor = c.floor-below.ensures in
    let ordered = g.met.R.Recovery.ordered s c.args.line in
    let stores = c.stores-below-end.ensures in
    (omega (arith, floor), omega (arith, floor, ordered, stores), none_yet (is_first (r.alike s (question c.args.line (2 ^ 64 - 1))) low) low c.floor-below.result floor)

pub overflow_add-count : goal.overflow_add-count
overflow_add-count g c =
    let r = g.R.Recovery in
    let s = c.args.recovery.now in
    let low : ℕ = r.low s c.args.line in
    let most = at_most_all (is_first (r.alike s (question c.args.line (2 ^ 64 - 1))) low) (low + 1) (c.loop-below.below - low) in
    let count = c.loop-below.invariant.2 in
    let less = c.loop-below-test.true in
    let fits = c.stores-below-end.type_inv in omega (arith, most, count, less, fits)

pub loop-below-preserved : goal.loop-below-preserved
loop-below-preserved g c =
    let r = g.R.Recovery in
    let s = c.args.recovery.now in
    let i = c.loop-below.invariant in
    let low : ℕ = r.low s c.args.line in
    let first : ℕ → Bool = is_first (r.alike s (question c.args.line (2 ^ 64 - 1))) low in (
      let h = i.0 in omega (arith, h),
      let h = c.loop-below-test.true in omega (arith, h),
      elim c.if-is_first.branch [
        | then-is_first w ↦ one_counted first low c.loop-below.below c.loop-below.count _ c.is_first.result i.0 c.is_first.ensures w.if-is_first.true w.count-is i.2
        | else-is_first w ↦ none_counted first low c.loop-below.below c.loop-below.count _ c.is_first.result i.0 c.is_first.ensures w.if-is_first.false w.count-is i.2
      ],
    )

pub returns : goal.returns
returns g c =
    let r = g.R.Recovery in
    let s = c.args.recovery.now in
    let low : ℕ = r.low s c.args.line in
    let end : c.loop-below.below ≡ r.high s c.args.line =
    (let a = c.loop-below.invariant.1 in let b = c.loop-below-test.false in let e = c.stores-below-end.ensures in omega (arith, a, b, e)) in
    all_counted (is_first (r.alike s (question c.args.line (2 ^ 64 - 1))) low) low c.loop-below.below (r.high s c.args.line) c.loop-below.count end c.loop-below.invariant.2
