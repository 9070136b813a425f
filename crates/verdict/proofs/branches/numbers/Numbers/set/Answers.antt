use Rattle.std.proofs.Common.{length, refl, ◌∙◌}
use Rattle.verdict.specs.Queue.{entry_at}
use Rattle.verdict.proofs.Tables.{way_next}
use Rattle.verdict.proofs.branches.numbers.Numbers.set.Goals as goal

pub loop-next-preserved : goal.loop-next-preserved
loop-next-preserved c = (
  way_next (length c.args.self.now) c.args.entries.now c.args.at c.loop-next.next (entry_at c.args.entries.now c.loop-next.next)
      c.loop-next.self c.raise.new.self c.requires.tree c.loop-next-test.true refl c.in_ok-raise.ensures.raised c.loop-next.invariant.0,
  c.in_ok-raise.ensures.size ∙ c.loop-next.invariant.1,
)
