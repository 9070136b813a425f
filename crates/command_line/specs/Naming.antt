-- How a schedule is printed behind a word that says what it is.
use Rattle.std.specs.Prelude.{ℕ, Bool, true, false, List, [], ◌++◌, Option, Some, None, codes}
use Rattle.machine.specs.Joined.{joined, text_of}
use Rattle.machine.specs.declared.schedule.items.Item.{Item}
use Rattle.report.specs.Why.{spaced}
use Rattle.command_line.specs.Reports.{line_end}

-- `WORD ITEMS`, or the word alone where there is no item
abbrev pub items_line : List ℕ → List ℕ → List ℕ
items_line word items = word ++ (spaced items ++ line_end)

-- `{"kind":"WORD","items":"ITEMS"}`
abbrev pub items_json : List ℕ → List ℕ → List ℕ
items_json word items = codes "{\"kind\":\"" ++ (word ++ (codes "\",\"items\":\"" ++ (items ++ (codes "\"}" ++ line_end))))

-- each of them for the items of a schedule
abbrev pub named_schedule : Bool → List ℕ → List Item → List ℕ
named_schedule true word schedule = items_json word (text_of (joined schedule))
named_schedule false word schedule = items_line word (text_of (joined schedule))

-- nothing where none is known
abbrev pub known_schedule : Bool → List ℕ → Option (List Item) → List ℕ
known_schedule json word (Some schedule) = named_schedule json word schedule
known_schedule json word None = []
