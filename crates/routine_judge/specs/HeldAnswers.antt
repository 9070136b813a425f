-- The bytes of an answer, or of a copy of one.
use Rattle.std.specs.Prelude.{ℕ, List}
use Rattle.routine_judge.specs.declared.held.Held.{Held}
use Rattle.routine_judge.specs.declared.held.Held.TheVariants.{Own, Copy}

abbrev pub bytes_in : Held → List ℕ
bytes_in (Own answer) = answer
bytes_in (Copy bytes) = bytes.items
