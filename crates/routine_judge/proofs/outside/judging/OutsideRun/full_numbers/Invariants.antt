use Rattle.std.proofs.Common.{◌≡◌, ◌<◌, ℕ, length}
use Rattle.std.specs.Prelude.{slice_index}
use Rattle.store_trace.specs.History.{at_moment}
use Rattle.store_trace.specs.Stores.{stores}
use Rattle.routine_judge.proofs.outside.judging.OutsideRun.full_numbers.Given as goal

abbrev pub invariant-loop-line : goal.invariant-loop-line
invariant-loop-line l =
    (length l.numbers.items ≡ l.line) × ((n : ℕ) → n < l.line → slice_index l.numbers.items n ≡ stores n (at_moment l.self.events l.moment))
