-- The points of a debugger: its breakpoints and the lines that it watches.
use Rattle.std.specs.Prelude.{ℕ, ◌+◌, ◌*◌, ◌/◌, ◌%◌, ◌==◌, ◌&&◌, ◌++◌, List, [], ◌∷◌, Bool, false, not, filter, if◌then◌else◌, nat_le, nat_lt}
use Rattle.std.specs.List.{list_any}
use Rattle.line_memory.specs.declared.TheConstants.{TEXT_BASE, TEXT_SIZE}
use Rattle.machine.specs.Represents.{MachineView}
use Rattle.debugger.specs.declared.points.Point.{Point}
use Rattle.debugger.specs.declared.points.Point.TheVariants.{Break, Watch}

-- what a contract sees of a debugger: its machine, and its points in the order in which they were set
pub record DebuggerView : Type 0 where
  pub machine : MachineView
  pub points : List Point

-- the first address of the line that holds an address
abbrev pub line_start : ℕ → ℕ
line_start address = 64 * (address / 64)

-- the point is a breakpoint at the address; it watches the line that begins at the address
abbrev pub is_break : ℕ → Point → Bool
is_break address (Break at) = at == address
is_break address (Watch line) = false

abbrev pub is_watch : ℕ → Point → Bool
is_watch line (Break at) = false
is_watch line (Watch start) = start == line

abbrev pub has_break : List Point → ℕ → Bool
has_break points address = list_any (is_break address) points

abbrev pub has_watch : List Point → ℕ → Bool
has_watch points line = list_any (is_watch line) points

-- an instruction of the text region may begin there
abbrev pub can_break : ℕ → Bool
can_break address = (nat_le TEXT_BASE address && nat_lt address (TEXT_BASE + TEXT_SIZE)) && (address % 4 == 0)

-- the points with one more, which takes a place only where it isn't set
abbrev pub with_break : List Point → ℕ → List Point
with_break points address = if has_break points address then points else points ++ Break address ∷ []

abbrev pub with_watch : List Point → ℕ → List Point
with_watch points line = if has_watch points line then points else points ++ Watch line ∷ []

-- an address stands for the breakpoint at it and for the watch on its line
abbrev pub is_meant : ℕ → Point → Bool
is_meant address (Break at) = at == address
is_meant address (Watch line) = line == line_start address

abbrev pub without : List Point → ℕ → List Point
without points address = filter (λ point. not (is_meant address point)) points
