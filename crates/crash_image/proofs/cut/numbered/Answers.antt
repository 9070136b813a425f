use Rattle.std.proofs.Common.{◌≡◌, ◌∙◌, arith}
use Rattle.crash_image.proofs.Numbering.{none_numbered, one_numbered, all_numbered}
use Rattle.crash_image.proofs.cut.numbered.Goals as goal

pub loop-at-init : goal.loop-at-init
loop-at-init c = rw (c.in_ok-entries.ensures.items, c.from-rest.ensures) (none_numbered c.args.bounds.now c.args.n)

pub loop-at-preserved : goal.loop-at-preserved
loop-at-preserved c =
    rw (c.in_ok-push.ensures.items, c.entry.ensures, c.numbers-rest.ensures.value)
    (one_numbered c.args.bounds.now c.args.n c.loop-at.at c.loop-at.rest _ c.loop-at.entries.items c.loop-at-test.true c.loop-at.auto.at c.loop-at.invariant)

pub returns : goal.returns
returns c =
    let none : c.loop-at.at ≡ 0 = omega arith in
    c.reverse.ensures.items ∙ all_numbered c.args.bounds.now c.args.n c.loop-at.rest c.loop-at.entries.items c.requires.below (rw none at c.loop-at.invariant)
