use Rattle.std.proofs.Common.{ℕ, [], take}
use Rattle.crash_image.specs.LeastCut.{AreSought}
use Rattle.line_memory.specs.Lines.{IsMedium}
use Rattle.store_trace.specs.History.{history}
use Rattle.crash_image.proofs.search.look_through.Given as goal

abbrev pub invariant-loop-event : goal.invariant-loop-event
invariant-loop-event l =
    IsMedium l.shown
    × ((low : ℕ → ℕ) → AreSought l.medium l.wanted low 0 [] l.medium l.fn.all →
    AreSought l.medium l.wanted low l.event-index (history (take l.event-index l.events)) l.shown l.all)
