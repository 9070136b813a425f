use Rattle.verdict.proofs.Opening.{at_cuts}
use Rattle.verdict.proofs.branches.progress.Progress.open_many.Goals as goal

pub open_round-requires-clause-cuts : goal.open_round-requires-clause-cuts
open_round-requires-clause-cuts g c κs within =
    let r = g.R.Recovery in
    let s = c.args.recovery.now in
    let p = c.args.self.now in
    let laws = g.met.R.Recovery g.world.𝓛 g.world.𝓜 g.world.𝓡 ((λ s x. x), (λ x. x), (λ x. x), λ x. x) in
    rw c.deref.ensures.value
    (at_cuts (r.alike s) (r.asks s) (r.judged s) (r.low s) (r.high s) (r.lines s) p.opened p.findings.found.items p.findings.least c.args.least p.findings.asked
    (laws.equivalent s) (laws.adaptive s) c.requires.at)
