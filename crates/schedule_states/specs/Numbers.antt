-- Values by their numbers.
use Rattle.std.specs.Prelude.{◌≡◌, ℕ, Bool, true, List, Some, slice_get}
use Rattle.schedule_states.specs.declared.numbers.Table.{Table}
use Rattle.schedule_states.specs.declared.numbers.Table.TheVariants as table

-- each number stays that of its value
abbrev pub AreKept : {T : Type 0} → List T → List T → Type 0
AreKept old new = (n : ℕ) (value : _) → slice_get old n ≡ Some value → slice_get new n ≡ Some value

-- the number is that of a value which is equal to this one
pub record HasNumber {T : Type 0} (eq : T → T → Bool) (values : List T) (number : ℕ) (value : T) : Type 0 where
  pub found : T
  pub here : slice_get values number ≡ Some found
  pub equal : eq value found ≡ true

-- the values of a table, its own or lent ones
abbrev pub values_in : {T : Type 0} → Table T → List T
values_in (table.Own values) = values.keys
values_in (table.Lent values) = values.now.keys
