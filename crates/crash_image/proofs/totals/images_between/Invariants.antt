use Rattle.std.proofs.Common.{◌≡◌, ℕ, ◌*◌, ◌<◌, ◌≤◌}
use Rattle.store_trace.specs.Cut.{cut_count}
use Rattle.store_trace.specs.History.{at_moment}
use Rattle.crash_image.specs.Totals.{free_lines, images_between}
use Rattle.crash_image.proofs.totals.images_between.Given as goal

abbrev pub invariant-loop-moment : goal.invariant-loop-moment
invariant-loop-moment l = record {
  free : l.free.items ≡ free_lines (at_moment l.events l.moment);
  total : l.total ≡ images_between l.events l.first l.moment;
  small : l.total ≤ l.moment * 65536;
  few : (m : ℕ) → l.first ≤ m → m < l.moment → cut_count (at_moment l.events m) ≤ 65536;
}
