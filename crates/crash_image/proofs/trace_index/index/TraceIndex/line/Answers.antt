use Rattle.std.proofs.Common.{◌≡◌, ◌<◌, ◌≤◌, ℕ, List, length, subst, ap, ◌∙◌}
use Rattle.store_trace.specs.Image.{line_after}
use Rattle.store_trace.specs.Stores.{stores}
use Rattle.line_memory.specs.Lines.{line_at}
use Rattle.store_trace.specs.History.{at_moment, history}
use Rattle.crash_image.proofs.Queries.{bytes_found, bytes_none, last_moment, line_at_moment}
use Rattle.crash_image.specs.Lines.{LineView, bytes_before, unstored}
use Rattle.crash_image.specs.TraceIndexView.{IndexView}
use Rattle.crash_image.proofs.trace_index.index.TraceIndex.line.Goals as goal

pub returns-in-Some-clause-whole : goal.returns-in-Some-clause-whole
returns-in-Some-clause-whole c =
    let here = rw c.in-Some.is at c.line.ensures.some in
    let found = c.bytes.ensures
    ∙ ap (λ (bytes : List ℕ). bytes_before bytes c.in-Some.index.now.stores c.args.number) c.read_line-start.ensures.value
    ∙ ap (λ (line : LineView). bytes_before (line_at c.self.inside.medium.now c.args.line) line.stores c.args.number) here in
    let last = last_moment c.self.inside.events.now in
    subst (λ (v : IndexView). c.args.line < length v.start → c.args.number ≤ stores c.args.line (history v.events) →
    c.bytes.result.now ≡ line_after (line_at v.start c.args.line) c.args.line c.args.number (history v.events)) c.self.view_is
    (λ there le. found
    ∙ bytes_found c.self.inside.medium.now (at_moment c.self.inside.events.now) (length c.self.inside.events.now) c.self.inside.lines c.args.line c.args.number unstored
    c.self.invariant.1 there (rw last le)
    ∙ ap (line_after (line_at c.self.inside.medium.now c.args.line) c.args.line c.args.number) last)
    c.requires.line c.requires.number

pub returns-in-None-clause-whole : goal.returns-in-None-clause-whole
returns-in-None-clause-whole c =
    let none = rw c.in-None.is at c.line.ensures.none in
    let last = last_moment c.self.inside.events.now in
    subst (λ (v : IndexView). c.args.line < length v.start → c.args.number ≤ stores c.args.line (history v.events) →
    c.read_line-start.result.now ≡ line_after (line_at v.start c.args.line) c.args.line c.args.number (history v.events)) c.self.view_is
    (λ there le. c.read_line-start.ensures.value
    ∙ bytes_none c.self.inside.medium.now (at_moment c.self.inside.events.now) (length c.self.inside.events.now) c.self.inside.lines c.args.line c.args.number
    c.self.invariant.1 there (rw last le) none
    ∙ ap (line_after (line_at c.self.inside.medium.now c.args.line) c.args.line c.args.number) last)
    c.requires.line c.requires.number

pub returns-in-Some-clause-at : goal.returns-in-Some-clause-at
returns-in-Some-clause-at c = λ moment le few.
    returns-in-Some-clause-whole c ∙ line_at_moment (line_at c.args.self.now.start c.args.line) c.args.line c.args.number moment c.args.self.now.events few

pub returns-in-None-clause-at : goal.returns-in-None-clause-at
returns-in-None-clause-at c = λ moment le few.
    returns-in-None-clause-whole c ∙ line_at_moment (line_at c.args.self.now.start c.args.line) c.args.line c.args.number moment c.args.self.now.events few
