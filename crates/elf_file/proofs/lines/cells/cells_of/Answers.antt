use Rattle.std.proofs.Common.{◌≡◌, ◌∙◌, ◌+◌, ◌-◌, ◌++◌, ℕ, List, Option, None, length, get_or, drop, take, sym, ap, subst, arith}
use Rattle.std.proofs.lemmas.List.{take_at}
use Rattle.elf_file.specs.Lines.{with_row}
use Rattle.elf_file.specs.SourceRows.{known_row}
use Rattle.elf_file.proofs.Holding.{AreCellsUpTo, cells_begun, cells_more, no_row}
use Rattle.elf_file.proofs.Skipping.{own_skips, skips_of_slices}
use Rattle.elf_file.proofs.lines.cells.cells_of.Goals as goal

pub loop-number-init : goal.loop-number-init
loop-number-init c =
    let cells : List (Option ℕ) = c.in_ok-cells.cells.items in
    let size : length cells ≡ 65536 = c.in_ok-cells.ensures.size in
    let own = c.in_ok-skips.ensures in (
      cells_begun c.args.rows.now cells size c.in_ok-cells.ensures.none,
      own_skips cells c.in_ok-skips.skips.items (own.0 ∙ ap (λ (n : ℕ). n + 1) (sym size), own.1),
    )

pub fill_row-requires : goal.fill_row-requires
fill_row-requires c = (
  ap (λ (l : List (Option ℕ)). length l) c.deref_mut.ensures.value ∙ c.loop-number.invariant.0.size,
  skips_of_slices c.loop-number.cells.items c.deref_mut.result.now c.loop-number.skips.items c.deref_mut-in-loop-number.result.now
      c.deref_mut.ensures.value c.deref_mut-in-loop-number.ensures.value c.loop-number.invariant.1,
)

pub loop-number-preserved : goal.loop-number-preserved
loop-number-preserved c =
    let rows = c.args.rows.now in
    let n : ℕ = c.loop-number.number in
    let old : List (Option ℕ) = c.loop-number.cells.items in
    let new : List (Option ℕ) = c.fill_row.new.cells in
    let skips : List ℕ = c.fill_row.new.skips in
    let all : take c.loop-number.cells.len (new ++ drop (length new) old) ≡ new =
    take_at new (drop (length new) old) c.loop-number.cells.len (c.fill_row.auto.cells ∙ c.deref_mut.ensures.len) in
    let all_skips : take c.loop-number.skips.len (skips ++ drop (length skips) c.loop-number.skips.items) ≡ skips =
    take_at skips (drop (length skips) c.loop-number.skips.items) c.loop-number.skips.len (c.fill_row.auto.skips ∙ c.deref_mut-in-loop-number.ensures.len) in
    let size : length new ≡ 65536 =
    c.fill_row.auto.cells ∙ ap (λ (l : List (Option ℕ)). length l) c.deref_mut.ensures.value ∙ c.loop-number.invariant.0.size in
    let family : List (Option ℕ) → Type 0 = λ (l : List (Option ℕ)). AreCellsUpTo rows (n + 1) l in (
      subst family (sym all)
          (cells_more rows n old new (omega arith) (omega arith) size
          (λ at less. c.fill_row.ensures.cells at less
          ∙ ap (λ (l : List (Option ℕ)). with_row (known_row (get_or rows (n - 1) no_row)) (known_row (get_or rows n no_row)) (n - 1) at (get_or l at None))
          c.deref_mut.ensures.value)
          c.loop-number.invariant.0),
      skips_of_slices new _ skips _ all all_skips c.fill_row.ensures.skips,
    )
