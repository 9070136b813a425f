use Rattle.std.proofs.Common.{◌≡◌, ◌++◌, ℕ, List, drop}
use Rattle.std.specs.Option.{option_map}
use Rattle.crash_image.specs.LeastCut.{chosen_from}
use Rattle.crash_image.proofs.search.numbers_found.Given as goal

abbrev pub invariant-loop-line : goal.invariant-loop-line
invariant-loop-line l =
    option_map (λ (rest : List (ℕ × ℕ)). l.entries.items ++ rest) (chosen_from l.line (drop l.line l.all)) ≡ chosen_from 0 l.all
