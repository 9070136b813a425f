use Rattle.std.proofs.Common.{◌≡◌, ◌∙◌, ◌+◌, ◌<◌, ◌∷◌, [], ◌++◌, ◌||◌, Bool, ℕ, List, ap, length, sym, subst}
use Rattle.std.specs.List.{AllByRecursion}
use Rattle.verdict.specs.Branches.{has_line}
use Rattle.verdict.specs.Numbers.{is_flagged}
use Rattle.verdict.specs.declared.branches.question.Question.{Question}
use Rattle.verdict.specs.Openings.{IsAt, IsRun}
use Rattle.verdict.specs.declared.branches.queue.Entry.{Entry}
use Rattle.verdict.proofs.Opening.{at_many, at_within, best_above, flagged_now, flagged_one, flagged_still, runs_one}
use Rattle.verdict.proofs.Nodes.{node}
use Rattle.verdict.specs.Queue.{cut_at}
use Rattle.verdict.proofs.branches.progress.Progress.open_next.Goals as goal

pub open-requires : goal.open-requires
open-requires g c =
    let r = g.R.Recovery in
    let s = c.args.recovery.now in
    let p = c.args.self.now in
    let nodes = c.requires.at.opening.nodes in
    let within = at_within (r.alike s) (r.asks s) (r.judged s) (r.low s) (r.high s) (r.lines s) p.opened p.findings.found.items p.findings.least c.args.least p.findings.asked
    (g.met.R.Recovery.equivalent s) (g.met.R.Recovery.adaptive s) c.requires.there c.requires.at in
    rw c.deref.ensures.value (c.type_bounds.send-R-Cause, (c.type_bounds.send-R-Workspace, (c.requires.run_size, (c.requires.there, (nodes.tree, (nodes.raised, (within, c.requires.fits)))))))

pub add-requires : goal.add-requires
add-requires g c = λ some. c.open.ensures.size ∙ (c.requires.run_size ∙ sym c.requires.least_size)

pub insert_asked-requires : goal.insert_asked-requires
insert_asked-requires g c =
    subst (λ (qs : List Question). AllByRecursion (λ q. q.line < length c.args.self.now.findings.asked) qs) (sym c.deref-2.ensures.value)
    (subst (λ (n : ℕ). AllByRecursion (λ q. q.line < n) c.open.new.self.asked.items) (sym c.requires.size) c.in_ok-judged.ensures.below)

pub invariant_of-run : goal.invariant_of-run
invariant_of-run g c = record { same_size = c.open.new.self.same_size }

pub invariant_of-run-2 : goal.invariant_of-run-2
invariant_of-run-2 g c = record { same_size = c.open.new.self.same_size ∙ sym c.add.ensures.cut_size }

pub returns-clause-at : goal.returns-clause-at
returns-clause-at g c =
    let r = g.R.Recovery in
    let s = c.args.recovery.now in
    let p = c.args.self.now in
    let queue = p.findings.found.items in
    let one = c.open.new.self in
    let new = c.add.new.self in
    let e = c.in_ok-judged.ensures in
    let within = at_within (r.alike s) (r.asks s) (r.judged s) (r.low s) (r.high s) (r.lines s) p.opened queue p.findings.least c.args.least p.findings.asked
    (g.met.R.Recovery.equivalent s) (g.met.R.Recovery.adaptive s) c.requires.there c.requires.at in
    let run : IsRun (r.asks s) (r.judged s) (r.alike s) (r.low s) (r.high s) (r.lines s) p.opened queue one.numbers one.asked.items one.found.items c.in_ok-judged.judged =
    subst (λ (q : List Entry). IsRun (r.asks s) (r.judged s) (r.alike s) (r.low s) (r.high s) (r.lines s) p.opened q one.numbers one.asked.items one.found.items c.in_ok-judged.judged)
    c.deref.ensures.value (record { cut = e.cut; above = e.above; asked = e.asked; below = e.below; judges = e.judged; branches = e.found }) in
    let marked = c.insert_asked.new.self in
    let flags : (l : ℕ) → is_flagged l new.asked ≡ (is_flagged l p.findings.asked || has_line l one.asked.items) =
    λ l. ap (λ (fs : List Bool). is_flagged l fs) c.add.ensures.asked ∙ subst (λ (qs : List Question). is_flagged l marked ≡ (is_flagged l p.findings.asked || has_line l qs)) c.deref-2.ensures.value (c.in_ok-insert_asked.ensures.after l) in
    let runs = runs_one (r.asks s) (r.judged s) (r.alike s) (r.low s) (r.high s) (r.lines s) p.opened queue one.found.items one.numbers one.asked.items c.in_ok-judged.judged new.asked
    c.requires.there within (flagged_now p.findings.asked new.asked (λ l. has_line l one.asked.items) flags) run in
    let less = c.in_ok-kept.ensures.less (r.low s) (λ some. e.above)
    (best_above (r.judged s) (r.low s) (r.high s) p.findings.least c.args.least c.requires.at.done c.requires.at.opening.best) in
    let next = at_many (r.alike s) (r.asks s) (r.judged s) (r.low s) (r.high s) (r.lines s) p.opened queue one.found.items one.numbers p.findings.least new.least
    c.in_ok-judged.judged c.args.least c.in_ok-kept.kept p.findings.asked new.asked new.asked (node (cut_at (r.low s) queue p.opened) one.asked.items ∷ [])
    (g.met.R.Recovery.equivalent s) (g.met.R.Recovery.adaptive s) runs less (flagged_still p.findings.asked new.asked (λ l. has_line l one.asked.items) flags) (λ l t. t)
    (flagged_one p.findings.asked new.asked (node (cut_at (r.low s) queue p.opened) one.asked.items) flags) c.requires.at in
    let items : new.found.items ≡ queue ++ one.found.items = subst (λ (es : List Entry). new.found.items ≡ queue ++ es) c.deref-3.ensures.value c.in_ok-kept.ensures.found in
    subst (λ (q : List Entry). IsAt (r.alike s) (r.asks s) (r.judged s) (r.low s) (r.high s) (r.lines s) (p.opened + 1) q new.least c.in_ok-kept.kept new.asked) (sym {A = List Entry} items) next
