-- The lines of the address space that aren't as they were at the start, each with the number of its state.
use Rattle.std.specs.Prelude.{ℕ, ◌==◌, ◌<◌, ◌++◌, not, nat_le, nat_lt, Bool, List, [], ◌∷◌, Option, Some, None, filter, map, if◌then◌else◌}
use Rattle.std.specs.List.{AllByRecursion}
use Rattle.schedule_states.specs.declared.held_lines.HeldLine.{HeldLine}
use Rattle.schedule_states.specs.declared.memory_lists.Lists.{Lists}
use Rattle.schedule_states.specs.declared.memory_lists.Lists.TheVariants as stand

-- the number of the state of line l, if it has one
abbrev pub number_of : List HeldLine → ℕ → Option ℕ
number_of [] l = None
number_of (h ∷ held) l = if h.line == l then Some h.state else number_of held l

-- it is of another line
abbrev pub is_apart : ℕ → HeldLine → Bool
is_apart l h = not (h.line == l)

-- it is of a line below the end of the text region
abbrev pub is_low : HeldLine → Bool
is_low h = nat_lt h.line 2048

-- it is of a line of the medium
abbrev pub is_of_medium : HeldLine → Bool
is_of_medium h = nat_le 16777216 h.line

-- those that are of lines of the medium
abbrev pub on_medium : List HeldLine → List HeldLine
on_medium held = filter is_of_medium held

-- each number is below this one
abbrev pub AreBelow : ℕ → List HeldLine → Type 0
AreBelow count held = AllByRecursion (λ h. h.state < count) held

-- the lists, and those behind them that a look has found
abbrev pub lists_in : Lists → List (List HeldLine)
lists_in (stand.Own lists) = map (λ list. list.items) lists
lists_in (stand.Lent lists further) = map (λ list. list.items) (lists.now ++ further.items)
