-- What `run` and `replay` print of harts and events.
use Rattle.std.specs.Prelude.{ℕ, List, ◌∷◌, [], ◌++◌, codes, decimal}
use Rattle.std.specs.List.{enumerate_from, flat_map}
use Rattle.hart.specs.declared.state.HartState.{HartState}
use Rattle.hart.specs.HartLines.{hart_line}

-- the end of a line, LF
abbrev pub line_end : List ℕ
line_end = 10 ∷ []

-- a line for each hart, by its number
abbrev pub hart_lines : List HartState → List ℕ
hart_lines harts = flat_map (λ (hart : ℕ × HartState). hart_line hart.0 hart.1 ++ line_end) (enumerate_from 0 harts)

-- `events N`, where N events were made
abbrev pub events_line : ℕ → List ℕ
events_line events = codes "events " ++ (decimal events ++ line_end)

abbrev pub run_report : List HartState → ℕ → List ℕ
run_report harts events = hart_lines harts ++ events_line events
