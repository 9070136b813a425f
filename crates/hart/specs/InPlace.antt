-- A step of a hart in place: the hart is changed where its instruction is done, and stands as it was where the
-- instruction asks or traps.
use Rattle.std.specs.Prelude.{◌≡◌}
use Rattle.hart.specs.declared.state.HartState.{HartState}
use Rattle.hart.specs.declared.need.Need.{Need}
use Rattle.hart.specs.declared.need.Need.TheVariants.{Local, Ask, Stop}
use Rattle.hart.specs.declared.need.Advance.{Advance}
use Rattle.hart.specs.declared.need.Advance.TheVariants as advances

-- what the instruction needed, by what its step came to and the hart that it left
abbrev pub need_after : HartState → Advance → Need
need_after after advances.Done = Local after
need_after after (advances.Ask request) = Ask request
need_after after (advances.Stop trap) = Stop trap

-- a step that isn't done leaves the hart as it was
abbrev pub IsKept : Advance → HartState → HartState → Type 0
IsKept advances.Done old new = Unit {0}
IsKept (advances.Ask request) old new = new ≡ old
IsKept (advances.Stop trap) old new = new ≡ old
