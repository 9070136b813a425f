-- What is printed of the stores that weren't durable in time.
use Rattle.std.specs.Prelude.{ℕ, ◌+◌, List, ◌++◌, codes, decimal, length}
use Rattle.std.specs.List.{flat_map}
use Rattle.durability.specs.declared.cut.Lost.{Lost}
use Rattle.durability.specs.declared.ends.EndLoss.{EndLoss}
use Rattle.durability.specs.declared.ends.Unpersisted.{Unpersisted}
use Rattle.report.specs.Places.{line_end}
use Rattle.report.specs.LossesCauses.{loss_text}

-- `operation N ends at E: lost ..`
abbrev pub end_line : (ℕ → List ℕ) → EndLoss → List ℕ
end_line event loss = codes "operation " ++ (decimal loss.operation
    ++ (codes " ends at " ++ (decimal loss.end ++ (codes ": " ++ (loss_text event loss.lost ++ line_end)))))

-- `at the end: lost ..`
abbrev pub outside_line : (ℕ → List ℕ) → Lost → List ℕ
outside_line event lost = codes "at the end: " ++ (loss_text event lost ++ line_end)

abbrev pub count_of : Unpersisted → ℕ
count_of told = length told.ends.items + length told.outside.items

-- a line for each store, and `unpersisted N`, N being their number
abbrev pub unpersisted_text : (ℕ → List ℕ) → Unpersisted → List ℕ
unpersisted_text event told = flat_map (end_line event) told.ends.items
    ++ (flat_map (outside_line event) told.outside.items ++ (codes "unpersisted " ++ (decimal (count_of told) ++ line_end)))
