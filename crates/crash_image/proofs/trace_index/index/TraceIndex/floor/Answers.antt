use Rattle.std.proofs.Common.{◌≡◌, ◌<◌, ◌≤◌, ℕ, length, get_or, sym, subst, ap, ◌∙◌}
use Rattle.store_trace.specs.Floor.{floor}
use Rattle.store_trace.specs.History.{at_moment}
use Rattle.crash_image.proofs.Queries.{floor_found, floor_none}
use Rattle.crash_image.specs.Lines.{IsPlace, LineView, floor_before, raise_event, unstored}
use Rattle.crash_image.specs.TraceIndexView.{IndexView}
use Rattle.crash_image.proofs.trace_index.index.TraceIndex.floor.Goals as goal

pub returns-in-Some : goal.returns-in-Some
returns-in-Some c =
    let here = rw c.in-Some.is at c.line.ensures.some in
    let found : (k : ℕ) → IsPlace raise_event (get_or c.self.inside.lines c.args.line unstored).raises c.args.moment k →
    c.floor_at.result ≡ floor_before (get_or c.self.inside.lines c.args.line unstored).raises k = λ k p.
    c.floor_at.ensures k (subst (λ (line : LineView). IsPlace raise_event line.raises c.args.moment k) (sym here) p)
    ∙ ap (λ (line : LineView). floor_before line.raises k) here in
    subst (λ (v : IndexView). c.args.line < length v.start → c.args.moment ≤ length v.events →
    c.floor_at.result ≡ floor c.args.line (at_moment v.events c.args.moment)) c.self.view_is
    (λ there le. floor_found c.self.inside.medium.now (at_moment c.self.inside.events.now) (length c.self.inside.events.now) c.self.inside.lines c.args.line c.args.moment c.floor_at.result unstored
    c.self.invariant.1 there le found)
    c.requires.line c.requires.moment

pub returns-in-None : goal.returns-in-None
returns-in-None c =
    let none = rw c.in-None.is at c.line.ensures.none in
    subst (λ (v : IndexView). c.args.line < length v.start → c.args.moment ≤ length v.events →
    0 ≡ floor c.args.line (at_moment v.events c.args.moment)) c.self.view_is
    (λ there le. floor_none c.self.inside.medium.now (at_moment c.self.inside.events.now) (length c.self.inside.events.now) c.self.inside.lines c.args.line c.args.moment
    c.self.invariant.1 there le none)
    c.requires.line c.requires.moment
