use Rattle.std.proofs.Common.{◌<◌, ℕ, ap, arith, sym, ◌∙◌}
use Rattle.std.proofs.lemmas.Bool.{false≢true}
use Rattle.verdict.proofs.Widening.{found_all, found_first, found_one, found_other}
use Rattle.verdict.proofs.branches.findings.Findings.open_lines.Goals as goal
use Rattle.verdict.proofs.branches.findings.Findings.open_lines.Goals.{then-contains+then-floor-stores+in_ok-push, else-contains, else-contains-via-then-contains+else-floor-stores, else-contains-via-else-contains}

pub loop-line-init : goal.loop-line-init
loop-line-init g c =
    let r = g.R.Recovery in
    let s = c.args.recovery.now in
    found_first (r.low s) (r.high s) (r.lines s) c.args.self.now.asked c.new-lines.result.items c.new-lines.ensures.items

pub loop-line-preserved : goal.loop-line-preserved
loop-line-preserved g c =
    let r = g.R.Recovery in
    let s = c.args.recovery.now in
    let flags = c.args.self.now.asked in
    let line : ℕ = c.loop-line.line in
    let below : line < r.lines s = (let t = c.loop-line-test.true in let e = c.lines-line-end.ensures in omega (arith, t, e)) in
    elim c.if-contains.branch [
      | then-contains+then-floor-stores+in_ok-push w ↦
          found_one (r.low s) (r.high s) (r.lines s) flags line c.loop-line.lines.items _ below (sym c.contains.ensures ∙ w.if-contains.true)
          (let t = w.if-floor-stores.true in let e = w.floor.ensures in let f = w.stores.ensures in omega (arith, t, e, f))
          (ap (λ v. v.items) w.lines-is ∙ w.in_ok-push.ensures.items) c.loop-line.invariant
      | else-contains w ↦ elim w.else-contains.branch [
        | else-contains-via-then-contains+else-floor-stores w' ↦
            found_other (r.low s) (r.high s) (r.lines s) flags line c.loop-line.lines.items _
            (λ t higher. let b = w'.if-floor-stores.false in let e = w'.floor.ensures in let f = w'.stores.ensures in omega (arith, b, e, f, higher))
            (ap (λ v. v.items) w.lines-is) c.loop-line.invariant
        | else-contains-via-else-contains w' ↦
            found_other (r.low s) (r.high s) (r.lines s) flags line c.loop-line.lines.items _
            (λ t higher. false≢true (sym w'.if-contains.false ∙ c.contains.ensures ∙ t))
            (ap (λ v. v.items) w.lines-is) c.loop-line.invariant
      ]
    ]

pub returns-clause-all : goal.returns-clause-all
returns-clause-all g c =
    let r = g.R.Recovery in
    let s = c.args.recovery.now in
    let size = c.requires in
    let count = c.lines-line-end.ensures in
    let end = c.loop-line-test.false in
    found_all (r.low s) (r.high s) (r.lines s) c.args.self.now.asked c.loop-line.line c.loop-line.lines.items (omega (arith, size, count, end)) c.loop-line.invariant
