-- What is printed of what would have made a lost store durable in time, by the text of each event.
use Rattle.std.specs.Prelude.{ℕ, List, ◌++◌, codes, decimal}
use Rattle.durability.specs.declared.mend.Deadline.{Deadline}
use Rattle.durability.specs.declared.mend.Deadline.TheVariants.{BeforeKept, BeforeEnd, BeforeBegin}
use Rattle.durability.specs.declared.mend.Mend.{Mend}
use Rattle.durability.specs.declared.mend.Mend.TheVariants.{Fence, CleanAndFence, Later, Earlier}
use Rattle.report.specs.Places.{line_end}

-- the event before which it had to be durable, and what that is: a kept store, or the End or the Begin of an operation
abbrev pub deadline_text : (ℕ → List ℕ) → Deadline → List ℕ
deadline_text event (BeforeKept store) = event store ++ codes " (kept)"
deadline_text event (BeforeEnd mark) = event mark.event ++ (codes " (end " ++ (decimal mark.operation ++ codes ")"))
deadline_text event (BeforeBegin mark) = event mark.event ++ (codes " (begin " ++ (decimal mark.operation ++ codes ")"))

abbrev pub mend_text : (ℕ → List ℕ) → Mend → List ℕ
mend_text event (Fence behind deadline) = codes "a fence behind " ++ (event behind ++ (codes " and before " ++ deadline_text event deadline))
mend_text event (CleanAndFence line behind deadline) = codes "a clean of l" ++ (decimal line ++ (codes " behind " ++ (event behind
    ++ (codes " and a fence behind it, before " ++ deadline_text event deadline))))
mend_text event (Later store) = codes "store " ++ (event store ++ codes " comes too early or to a wrong place")
mend_text event (Earlier store) = codes "store " ++ (event store ++ codes " comes too late or to a wrong place")

-- `mend: a fence behind E AT and before E AT (end 1)`
abbrev pub mend_line : (ℕ → List ℕ) → Mend → List ℕ
mend_line event mend = codes "mend: " ++ (mend_text event mend ++ line_end)
