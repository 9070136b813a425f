use Rattle.std.proofs.Common.{◌≡◌, ◌<◌, ◌/◌, ◌%◌, ◌∙◌, List, [], length, get_or, ap, sym, subst, arith}
use Rattle.std.specs.Prelude.{slice_set}
use Rattle.std.proofs.lemmas.List.{get_or_default}
use Rattle.crash_image.specs.Lines.{LineView, raised_to, unstored}
use Rattle.crash_image.specs.Tables.{table_lines}
use Rattle.crash_image.proofs.Paging.{line_set, line_there, page_there, whole_set}
use Rattle.crash_image.proofs.trace_index.table.LineTable.raise.Goals as goal

pub index_mut-requires : goal.index_mut-requires
index_mut-requires c =
    omega (
      arith,
      page_there c.self.inside.pages.items c.args.line c.self.invariant
          (subst (λ (lines : List LineView). c.args.line < length lines) (sym c.self.view_is) c.requires),
      c.self.inside.pages.ok.0,
    )

pub invariant_of-self : goal.invariant_of-self
invariant_of-self c = whole_set c.self.inside.pages.items (c.args.line / 64) c.raise.new.self c.self.invariant c.raise.ensures.whole

pub returns : goal.returns
returns c =
    let pages = c.self.inside.pages.items in
    let here : c.args.line < length (table_lines pages) = subst (λ (lines : List LineView). c.args.line < length lines) (sym c.self.view_is) c.requires in
    let page = c.index_mut.ensures.value ∙ get_or_default pages (c.args.line / 64) _ [] (page_there pages c.args.line c.self.invariant here) in
    let same : get_or c.index_mut.result.now (c.args.line % 64) unstored ≡ get_or c.args.self.now c.args.line unstored =
    ap (λ (lines : List LineView). get_or lines (c.args.line % 64) unstored) page
    ∙ line_there pages c.args.line unstored c.self.invariant here
    ∙ ap (λ (lines : List LineView). get_or lines c.args.line unstored) c.self.view_is in
    let made = c.in_ok-raise.ensures.raised in
    record {
      line = made.line;
      set = ap (λ (lines : List LineView). table_lines (slice_set pages (c.args.line / 64) lines))
          (made.set ∙ ap (λ (lines : List LineView). slice_set lines (c.args.line % 64) made.line) page)
          ∙ line_set pages c.args.line made.line c.self.invariant here
          ∙ ap (λ (lines : List LineView). slice_set lines c.args.line made.line) c.self.view_is;
      stores = made.stores ∙ ap (λ (line : LineView). line.stores) same;
      raises = made.raises ∙ ap (λ (line : LineView). raised_to line.raises c.args.event c.args.floor) same;
    }
