use Rattle.text.proofs.Upwards.{not_upward, one_more}
use Rattle.text.proofs.image_name.reader.is_upward.Goals as goal

pub returns-then-entries-at : goal.returns-then-entries-at
returns-then-entries-at c = (λ no. absurd cc, λ up. absurd (not_upward c.args.entries.now c.loop-at.at _ c.loop-at.auto.at c.loop-at-test.true c.if-entries-at.true up))

pub loop-at-preserved : goal.loop-at-preserved
loop-at-preserved c = one_more c.args.entries.now c.loop-at.at _ c.loop-at.auto.at c.loop-at-test.true c.if-entries-at.false c.loop-at.invariant
