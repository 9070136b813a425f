use Rattle.std.proofs.Common.{◌≡◌, ◌∙◌, List, length, get_or, ap, sym, subst, arith}
use Rattle.std.specs.List.{AllByRecursion}
use Rattle.std.proofs.lemmas.List.{length-replicate}
use Rattle.crash_image.specs.Lines.{LineView}
use Rattle.crash_image.specs.Tables.{table_lines}
use Rattle.crash_image.proofs.Paging.{table_length, table_none, whole_none}
use Rattle.crash_image.proofs.trace_index.table.LineTable.new.Goals as goal

pub returns-clause-size : goal.returns-clause-size
returns-clause-size c =
    let pages = c.loop-page.pages.items in
    let whole = subst (λ (ps : List (List LineView)). AllByRecursion (λ page. length page ≡ 64) ps) (sym c.loop-page.invariant) (whole_none c.loop-page._page) in
    let count : length pages ≡ c.loop-page._page = ap (λ (ps : List (List LineView)). length ps) c.loop-page.invariant ∙ length-replicate c.loop-page._page _ in
    omega (arith, table_length pages whole, count, c.div_ceil-count.ensures, c.loop-page-test.false)

pub returns-clause-stores : goal.returns-clause-stores
returns-clause-stores c = λ k d h.
    let pages = c.loop-page.pages.items in
    let whole = subst (λ (ps : List (List LineView)). AllByRecursion (λ page. length page ≡ 64) ps) (sym c.loop-page.invariant) (whole_none c.loop-page._page) in
    let count : length pages ≡ c.loop-page._page = ap (λ (ps : List (List LineView)). length ps) c.loop-page.invariant ∙ length-replicate c.loop-page._page _ in
    ap (λ (line : LineView). line.stores) (
    ap (λ (ps : List (List LineView)). get_or (table_lines ps) k d) c.loop-page.invariant
    ∙ table_none c.loop-page._page k d (omega (arith, h, table_length pages whole, count)))

pub returns-clause-raises : goal.returns-clause-raises
returns-clause-raises c = λ k d h.
    let pages = c.loop-page.pages.items in
    let whole = subst (λ (ps : List (List LineView)). AllByRecursion (λ page. length page ≡ 64) ps) (sym c.loop-page.invariant) (whole_none c.loop-page._page) in
    let count : length pages ≡ c.loop-page._page = ap (λ (ps : List (List LineView)). length ps) c.loop-page.invariant ∙ length-replicate c.loop-page._page _ in
    ap (λ (line : LineView). line.raises) (
    ap (λ (ps : List (List LineView)). get_or (table_lines ps) k d) c.loop-page.invariant
    ∙ table_none c.loop-page._page k d (omega (arith, h, table_length pages whole, count)))
