-- The lines of one family more.
use Rattle.arguments.proofs.Rows.{family_more}
use Rattle.arguments.proofs.codes.showing.lines_of.Goals as goal

pub loop-rows-preserved : goal.loop-rows-preserved
loop-rows-preserved c =
    family_more c.args.families.now c.loop-rows.rows-index _ _ _ c.loop-rows-test.true c.loop-rows.invariant c.in_ok-push_lines.ensures
