-- Each turn settles a row of moments more.
use Rattle.std.proofs.Common.{◌≡◌, ℕ, ◌-◌, ◌≤◌, sym, subst, arith, rules}
use Rattle.verdict.proofs.GoingOn.{few_told, settled_is}
use Rattle.verdict.specs.GoingOn.{IsVerdictOn, settled_verdict}
use Rattle.verdict.proofs.Watching.{at_first, at_next, few_images}
use Rattle.verdict.proofs.part.Part.judge_watched.Goals as goal

pub loop-next-init : goal.loop-next-init
loop-next-init g c =
    let part = c.args.self.now in
    rw c.first-first.ensures.is (at_first g.P.Progress.hears c.args.goes_on (g.M.Moments.judged part.run) (g.M.Moments.events part.run) part.first part.end
    c.args.progress.now c.first-first.ensures.order)

pub sum_of-images-requires-clause-images : goal.sum_of-images-requires-clause-images
sum_of-images-requires-clause-images g c =
    let part = c.args.self.now in
    few_images (g.M.Moments.events part.run) part.first c.loop-next.next c.loop-next.images
    (omega (arith, c.loop-next.invariant.within, part.few)) c.loop-next.invariant.passes.1

pub sum_of-images-requires-clause-more : goal.sum_of-images-requires-clause-more
sum_of-images-requires-clause-more g c =
    let part = c.args.self.now in
    let there : c.min-until.result ≤ part.end = search rules in
    let row = rw c.in-Settled.is at c.in_ok-end.ensures in
    few_images (g.M.Moments.events part.run) c.loop-next.next c.in-Settled.end c.in-Settled.more (omega (arith, row.1, there, part.few)) row.2.1

pub open_of_both-open-requires-clause-one : goal.open_of_both-open-requires-clause-one
open_of_both-open-requires-clause-one g c =
    let part = c.args.self.now in
    few_told (g.M.Moments.judged part.run) part.first c.loop-next.next c.loop-next.open
    (omega (arith, c.loop-next.invariant.within, part.few)) c.loop-next.invariant.left_open

pub open_of_both-open-requires-clause-other : goal.open_of_both-open-requires-clause-other
open_of_both-open-requires-clause-other g c =
    let part = c.args.self.now in
    let there : c.min-until.result ≤ part.end = search rules in
    let row = rw c.in-Settled.is at c.in_ok-end.ensures in
    few_told (g.M.Moments.judged part.run) c.loop-next.next c.in-Settled.end c.in-Settled.further (omega (arith, row.1, there, part.few)) row.3

pub loop-next-preserved : goal.loop-next-preserved
loop-next-preserved g c =
    let part = c.args.self.now in
    let there : c.min-until.result ≤ part.end = search rules in
    let row = rw c.in-Settled.is at c.in_ok-end.ensures in
    let heard = rw (c.first-first.ensures.is, c.end-end.ensures, c.sum_of-images.ensures) at c.hear.ensures in
    rw (c.sum_of-images.ensures, c.open_of_both-open.ensures) (at_next g.P.Progress.hears c.args.goes_on (g.M.Moments.judged part.run)
    (g.M.Moments.events part.run) part.first part.end c.loop-next.next c.min-until.result c.in-Settled.end c.loop-next.images c.in-Settled.more
    c.loop-next.open c.in-Settled.further c.args.progress.now c.loop-next.progress c.hear.new.self c.loop-next.invariant there row heard)

pub returns-in-Ends-clause-ok : goal.returns-in-Ends-clause-ok
returns-in-Ends-clause-ok g c =
    let part = c.args.self.now in
    let there : c.min-until.result ≤ part.end = search rules in
    let row = rw c.in-Ends.is at c.in_ok-end.ensures in
    row part.first part.end c.loop-next.invariant.from there c.loop-next.invariant.passes.2

pub returns-clause-ok : goal.returns-clause-ok
returns-clause-ok g c =
    let part = c.args.self.now in
    let is = c.loop-next.invariant in
    let all : c.loop-next.next ≡ part.end = omega (arith, is.within, c.loop-next-test.false, c.end-end.ensures) in
    let number : c.from.result ≡ c.loop-next.next - part.first = rw (c.end-end.ensures, c.first-first.ensures.is, sym all) at c.from.ensures in
    rw (c.verdict_on_settled.ensures, number) (subst
    (λ (end : ℕ). IsVerdictOn c.args.goes_on (g.M.Moments.judged part.run) (g.M.Moments.events part.run) part.first end
    (settled_verdict (c.loop-next.next - part.first) c.loop-next.images c.loop-next.open)) all
    (settled_is c.args.goes_on (g.M.Moments.judged part.run) (g.M.Moments.events part.run) part.first c.loop-next.next (c.loop-next.next - part.first)
    c.loop-next.images c.loop-next.open is.passes is.left_open))
