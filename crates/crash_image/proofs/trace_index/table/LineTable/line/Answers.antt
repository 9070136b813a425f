use Rattle.std.proofs.Common.{◌≡◌, ◌<◌, ◌/◌, ◌%◌, ◌∙◌, List, [], length, get_or, IfNone, IfSome, Bor, ap, sym, subst, arith}
use Rattle.std.proofs.lemmas.List.{get_or_default}
use Rattle.crash_image.specs.Lines.{LineView, unstored}
use Rattle.crash_image.specs.Tables.{table_lines}
use Rattle.crash_image.proofs.Paging.{line_there, page_there}
use Rattle.crash_image.proofs.trace_index.table.LineTable.line.Goals as goal

pub index-requires : goal.index-requires
index-requires c =
    omega (
      arith,
      page_there c.self.inside.pages.items c.args.line c.self.invariant
          (subst (λ (lines : List LineView). c.args.line < length lines) (sym c.self.view_is) c.requires),
      c.self.inside.pages.ok.0,
    )

pub returns-clause-some : goal.returns-clause-some
returns-clause-some c =
    let pages = c.self.inside.pages.items in
    let here : c.args.line < length (table_lines pages) = subst (λ (lines : List LineView). c.args.line < length lines) (sym c.self.view_is) c.requires in
    let page = c.index.ensures ∙ get_or_default pages (c.args.line / 64) _ [] (page_there pages c.args.line c.self.invariant here) in
    let same : get_or c.index.result.now (c.args.line % 64) unstored ≡ get_or c.args.self.now c.args.line unstored =
    ap (λ (lines : List LineView). get_or lines (c.args.line % 64) unstored) page
    ∙ line_there pages c.args.line unstored c.self.invariant here
    ∙ ap (λ (lines : List LineView). get_or lines c.args.line unstored) c.self.view_is in
    subst (λ (line : LineView). IfSome c.line.result (λ (index : Bor LineView). index.now ≡ line)) same c.line.ensures.some

pub returns-clause-none : goal.returns-clause-none
returns-clause-none c =
    let pages = c.self.inside.pages.items in
    let here : c.args.line < length (table_lines pages) = subst (λ (lines : List LineView). c.args.line < length lines) (sym c.self.view_is) c.requires in
    let page = c.index.ensures ∙ get_or_default pages (c.args.line / 64) _ [] (page_there pages c.args.line c.self.invariant here) in
    let same : get_or c.index.result.now (c.args.line % 64) unstored ≡ get_or c.args.self.now c.args.line unstored =
    ap (λ (lines : List LineView). get_or lines (c.args.line % 64) unstored) page
    ∙ line_there pages c.args.line unstored c.self.invariant here
    ∙ ap (λ (lines : List LineView). get_or lines c.args.line unstored) c.self.view_is in
    subst (λ (line : LineView). IfNone c.line.result (line ≡ unstored)) same c.line.ensures.none
