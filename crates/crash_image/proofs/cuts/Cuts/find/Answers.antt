use Rattle.std.proofs.Common.{◌∙◌, List, map, length, sym, ap}
use Rattle.crash_image.specs.Bounds.{stored_bounds}
use Rattle.crash_image.specs.View.{CutsView}
use Rattle.crash_image.specs.declared.bounds.LineBounds.{LineBounds}
use Rattle.store_trace.specs.History.{history}
use Rattle.crash_image.proofs.Least.{other_length_at}
use Rattle.crash_image.proofs.cuts.Cuts.find.Goals as goal

pub find_from-requires-clause-lines : goal.find_from-requires-clause-lines
find_from-requires-clause-lines c =
    sym c.lines.ensures.count ∙ c.if-lines.false ∙ c.lines-2.ensures.count ∙ ap (λ (v : CutsView). length v.start) c.self.view_is

pub find_from-requires-clause-floors : goal.find_from-requires-clause-floors
find_from-requires-clause-floors c =
    c.deref-2.ensures.value ∙ c.in_ok-floors.ensures
    ∙ ap (λ (bs : List LineBounds). map (λ (b : LineBounds). (b.line, b.floor)) bs)
    (c.deref.ensures.value ∙ c.self.invariant.3 ∙ ap (λ (v : CutsView). stored_bounds v.steps) c.self.view_is)

pub returns-then-lines-clause-ok : goal.returns-then-lines-clause-ok
returns-then-lines-clause-ok c =
    other_length_at c.self.inside.medium.now c.args.medium.now (history c.self.inside.events.now) c.args.self.now
    (λ e. c.if-lines.true (c.lines.ensures.count ∙ e ∙ sym c.lines-2.ensures.count)) c.self.view_is
