-- How many bytes the tables of a search hold. An entry has its own, and 16 for its place in the index, which takes 15 to 23. What it holds
-- elsewhere has 16 of the allocator. Room for further entries isn't counted, nor is what is kept of the operations.
use Rattle.std.specs.Prelude.{ℕ, ◌+◌, ◌*◌, List, length, sum_by}
use Rattle.schedule_states.specs.Covering.{ReachedView}
use Rattle.schedule_states.specs.Media.{MediaView}
use Rattle.schedule_states.specs.declared.held_lines.HeldLine.{HeldLine}
use Rattle.schedule_states.specs.declared.line_state.LineState.{LineState}

-- how many lines lists hold in all
abbrev pub lines_in : List (List HeldLine) → ℕ
lines_in lists = sum_by length lists

-- how many contents states have in all, but for what loads find
abbrev pub others_in : List LineState → ℕ
others_in states = sum_by (λ (state : LineState). length state.others.items) states

-- lists of held lines: 24 bytes each, and 8 a line
abbrev pub list_bytes : List (List HeldLine) → ℕ
list_bytes lists = 56 * length lists + 8 * lines_in lists

-- states of lines: 88 bytes each, and 72 a content
abbrev pub line_bytes : List LineState → ℕ
line_bytes states = 120 * length states + 72 * others_in states

-- what was reached: numbers of states, 40 bytes each and 8 of what led there, and parts of harts, 296 bytes each
abbrev pub reached_bytes : {T : Type 0} → ReachedView T → ℕ
reached_bytes r = 64 * length r.states + 312 * length r.hart_parts + (line_bytes r.parts.table.states + list_bytes r.parts.lists)

-- what the lists of a search hold of the medium: lists, and for each of the search's own its number among these
abbrev pub media_bytes : MediaView → ℕ
media_bytes media = list_bytes media.lists + 4 * length media.numbers
