use Rattle.std.proofs.Common.{◌≡◌, ◌<◌, ◌≤◌, ℕ, length, get_or, sym, subst}
use Rattle.store_trace.specs.Stores.{stores}
use Rattle.store_trace.specs.History.{at_moment}
use Rattle.crash_image.proofs.Queries.{stores_found, stores_none}
use Rattle.crash_image.specs.Lines.{IsPlace, LineView, store_event, unstored}
use Rattle.crash_image.specs.TraceIndexView.{IndexView}
use Rattle.crash_image.proofs.trace_index.index.TraceIndex.stores.Goals as goal

pub returns-in-Some : goal.returns-in-Some
returns-in-Some c =
    let here = rw c.in-Some.is at c.line.ensures.some in
    let found : (k : ℕ) → IsPlace store_event (get_or c.self.inside.lines c.args.line unstored).stores c.args.moment k → c.stores_at.result ≡ k = λ k p. c.stores_at.ensures.place k (subst (λ (line : LineView). IsPlace store_event line.stores c.args.moment k) (sym here) p) in
    subst (λ (v : IndexView). c.args.line < length v.start → c.args.moment ≤ length v.events →
    c.stores_at.result ≡ stores c.args.line (at_moment v.events c.args.moment)) c.self.view_is
    (λ there le. stores_found c.self.inside.medium.now (at_moment c.self.inside.events.now) (length c.self.inside.events.now) c.self.inside.lines c.args.line c.args.moment c.stores_at.result unstored
    c.self.invariant.1 there le found)
    c.requires.line c.requires.moment

pub returns-in-None : goal.returns-in-None
returns-in-None c =
    let none = rw c.in-None.is at c.line.ensures.none in
    subst (λ (v : IndexView). c.args.line < length v.start → c.args.moment ≤ length v.events →
    0 ≡ stores c.args.line (at_moment v.events c.args.moment)) c.self.view_is
    (λ there le. stores_none c.self.inside.medium.now (at_moment c.self.inside.events.now) (length c.self.inside.events.now) c.self.inside.lines c.args.line c.args.moment
    c.self.invariant.1 there le none)
    c.requires.line c.requires.moment
