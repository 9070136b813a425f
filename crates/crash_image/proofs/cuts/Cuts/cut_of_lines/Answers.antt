use Rattle.std.proofs.Common.{◌≡◌, ◌∙◌, ◌++◌, List, ℕ, map, take, drop, length, ap, sym, subst}
use Rattle.store_trace.specs.Cut.{IsCut}
use Rattle.crash_image.proofs.CutNames.{lines_cut, lines_there, there_lines}
use Rattle.crash_image.proofs.Least.{floors_cut}
use Rattle.crash_image.proofs.Lined.{cut_increasing}
use Rattle.crash_image.proofs.Slices.{written}
use Rattle.crash_image.specs.Bounds.{stored_bounds}
use Rattle.crash_image.specs.Named.{named_cut, renumbered}
use Rattle.crash_image.specs.View.{CutsView}
use Rattle.crash_image.specs.declared.bounds.LineBounds.{LineBounds}
use Rattle.crash_image.proofs.cuts.Cuts.cut_of_lines.Goals as goal

pub renumber-requires : goal.renumber-requires
renumber-requires c =
    let b : c.deref.result.now ≡ stored_bounds c.args.self.now.steps =
    c.deref.ensures.value ∙ c.self.invariant.3 ∙ ap (λ (v : CutsView). stored_bounds v.steps) c.self.view_is in
    let f : c.deref_mut.result.now ≡ map (λ (x : LineBounds). (x.line, x.floor)) (stored_bounds c.args.self.now.steps) =
    c.deref_mut.ensures.value ∙ c.in_ok-entries.ensures ∙ ap (λ (bs : List LineBounds). map (λ (x : LineBounds). (x.line, x.floor)) bs) b in
    cut_increasing c.args.self.now.steps c.deref_mut.result.now (floors_cut c.args.self.now.steps c.deref_mut.result.now f)

pub returns-then-not-renumber-clause-cut : goal.returns-then-not-renumber-clause-cut
returns-then-not-renumber-clause-cut c =
    let b : c.deref.result.now ≡ stored_bounds c.args.self.now.steps =
    c.deref.ensures.value ∙ c.self.invariant.3 ∙ ap (λ (v : CutsView). stored_bounds v.steps) c.self.view_is in
    let f : c.deref_mut.result.now ≡ map (λ (x : LineBounds). (x.line, x.floor)) (stored_bounds c.args.self.now.steps) =
    c.deref_mut.ensures.value ∙ c.in_ok-entries.ensures ∙ ap (λ (bs : List LineBounds). map (λ (x : LineBounds). (x.line, x.floor)) bs) b in
    λ e lines cut.
    let yes = c.renumber.ensures.there.1 (there_lines c.args.self.now.steps c.deref_mut.result.now c.entries.result.now c.args.lines.now
    (floors_cut c.args.self.now.steps c.deref_mut.result.now f).lines c.entries.ensures lines) in
    let no = c.if-not-renumber.true in
    cc

pub returns-then-not-contains-clause-cut : goal.returns-then-not-contains-clause-cut
returns-then-not-contains-clause-cut c =
    let b : c.deref.result.now ≡ stored_bounds c.args.self.now.steps =
    c.deref.ensures.value ∙ c.self.invariant.3 ∙ ap (λ (v : CutsView). stored_bounds v.steps) c.self.view_is in
    let same : take c.in_ok-entries.entries.len (c.renumber.new.entries ++ drop (length c.renumber.new.entries) c.in_ok-entries.entries.items) ≡ c.renumber.new.entries =
    written c.in_ok-entries.entries.items c.renumber.new.entries c.in_ok-entries.entries.len c.in_ok-entries.entries.ok.0
    (c.renumber.auto.entries ∙ ap (λ (es : List (ℕ × ℕ)). length es) c.deref_mut.ensures.value) in
    let made : c.from_entries-cut.result ≡ named_cut c.args.self.now.steps c.args.lines.now =
    lines_cut c.args.self.now.steps c.deref.result.now c.args.lines.now c.deref_mut.result.now c.from_entries-cut.result b
    (c.deref_mut.ensures.value ∙ c.in_ok-entries.ensures)
    (c.from_entries-cut.ensures ∙ same ∙ c.renumber.ensures.given c.if-not-renumber.false
    ∙ ap (λ (ls : List (ℕ × ℕ)). renumbered ls c.deref_mut.result.now) c.entries.ensures) in
    λ e lines cut.
    let yes = c.contains.ensures.1 (subst (λ (x : List (ℕ × ℕ)). IsCut c.args.self.now.steps x) (sym made) cut) in
    let no = c.if-not-contains.true in
    cc

pub returns-clause-ok : goal.returns-clause-ok
returns-clause-ok c =
    let b : c.deref.result.now ≡ stored_bounds c.args.self.now.steps =
    c.deref.ensures.value ∙ c.self.invariant.3 ∙ ap (λ (v : CutsView). stored_bounds v.steps) c.self.view_is in
    let same : take c.in_ok-entries.entries.len (c.renumber.new.entries ++ drop (length c.renumber.new.entries) c.in_ok-entries.entries.items) ≡ c.renumber.new.entries =
    written c.in_ok-entries.entries.items c.renumber.new.entries c.in_ok-entries.entries.len c.in_ok-entries.entries.ok.0
    (c.renumber.auto.entries ∙ ap (λ (es : List (ℕ × ℕ)). length es) c.deref_mut.ensures.value) in
    lines_cut c.args.self.now.steps c.deref.result.now c.args.lines.now c.deref_mut.result.now c.from_entries-cut.result b
    (c.deref_mut.ensures.value ∙ c.in_ok-entries.ensures)
    (c.from_entries-cut.ensures ∙ same ∙ c.renumber.ensures.given c.if-not-renumber.false
    ∙ ap (λ (ls : List (ℕ × ℕ)). renumbered ls c.deref_mut.result.now) c.entries.ensures)

pub returns-clause-lines : goal.returns-clause-lines
returns-clause-lines c =
    let b : c.deref.result.now ≡ stored_bounds c.args.self.now.steps =
    c.deref.ensures.value ∙ c.self.invariant.3 ∙ ap (λ (v : CutsView). stored_bounds v.steps) c.self.view_is in
    let f : c.deref_mut.result.now ≡ map (λ (x : LineBounds). (x.line, x.floor)) (stored_bounds c.args.self.now.steps) =
    c.deref_mut.ensures.value ∙ c.in_ok-entries.ensures ∙ ap (λ (bs : List LineBounds). map (λ (x : LineBounds). (x.line, x.floor)) bs) b in
    lines_there c.args.self.now.steps c.deref_mut.result.now c.entries.result.now c.args.lines.now
    (floors_cut c.args.self.now.steps c.deref_mut.result.now f).lines c.entries.ensures
    (c.renumber.ensures.there.0 c.if-not-renumber.false)
