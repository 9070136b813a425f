use Rattle.std.proofs.Common.{◌≡◌, replicate}
use Rattle.crash_image.specs.Lines.{unstored}
use Rattle.crash_image.proofs.trace_index.table.LineTable.new.Given as goal

abbrev pub invariant-loop-page : goal.invariant-loop-page
invariant-loop-page l = l.pages.items ≡ replicate l._page (replicate 64 unstored)
