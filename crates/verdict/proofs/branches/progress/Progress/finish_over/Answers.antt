use Rattle.std.proofs.Common.{◌∙◌, sym}
use Rattle.verdict.proofs.Opening.{at_floors, at_only}
use Rattle.verdict.proofs.Trying.{tried_of}
use Rattle.verdict.proofs.branches.progress.Progress.finish_over.Goals as goal

pub returns-in_ok-lines-in-None-clause-tried : goal.returns-in_ok-lines-in-None-clause-tried
returns-in_ok-lines-in-None-clause-tried g c =
    let r = g.R.Recovery in
    let s = c.args.recovery.now in
    let p = c.args.self.now in
    let e = c.in_ok-lines-in-None.ensures in
    tried_of (r.asks s) (r.judged s) (r.low s) (r.high s) (r.lines s) (r.further s) c.args.least p.findings.asked c.in_ok-lines-in-None.lines.items c.try_edges.result (sym c.tries_further.ensures ∙ c.if-not-tries_further.false) c.in-None.is e.past e.asked e.all
    (at_only (r.alike s) (r.asks s) (r.judged s) (r.low s) (r.high s) (r.lines s) p.opened p.findings.found.items p.findings.least c.args.least p.findings.asked c.requires.at)
    (at_floors (r.alike s) (r.asks s) (r.judged s) (r.low s) (r.high s) (r.lines s) p.opened p.findings.found.items p.findings.least c.args.least p.findings.asked
    (g.met.R.Recovery.equivalent s) (g.met.R.Recovery.adaptive s) c.requires.begun c.requires.at)
    c.try_edges.ensures.found
