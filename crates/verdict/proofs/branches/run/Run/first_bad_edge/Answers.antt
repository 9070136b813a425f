use Rattle.verdict.specs.Numbers.{number_over}
use Rattle.verdict.proofs.Edging.{edges_found, if_none, passes}
use Rattle.verdict.proofs.Tables.{over_none}
use Rattle.verdict.proofs.branches.run.Run.first_bad_edge.Goals as goal

pub returns-clause-good : goal.returns-clause-good
returns-clause-good g c =
    let r = g.R.Recovery in
    let s = c.args.recovery.now in
    let at_floors = passes (r.judged s) (number_over (r.low s) c.clear.new.self) (r.low s) c.in_ok-judged.judged c.if-is_some.ensures
    (over_none (r.low s) c.clear.new.self c.clear.ensures.clear) c.in_ok-judged.ensures.judged in
    let alone = if_none c.in_ok-judged-2.judged _ c.if-is_some-2.ensures c.in_ok-judged-2.ensures.good in
    edges_found (r.judged s) (r.low s) (r.high s) c.args.lines.now c.first_bad_without.result at_floors alone.0 c.first_bad_without.ensures.good
