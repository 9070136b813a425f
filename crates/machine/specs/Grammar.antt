-- The text of a schedule.
use Rattle.std.specs.Prelude.{◌≡◌, ◌≤◌, ◌<◌, ◌^◌, ◌⊎◌, ◌++◌, ℕ, List, codes, ⊤}
use Rattle.std.specs.List.{AllZip, sum_by}
use Rattle.std.specs.Str.Parse.{IsNumeral, digits_value}
use Rattle.machine.specs.declared.schedule.fault.ScheduleFault.{ScheduleFault}
use Rattle.machine.specs.declared.schedule.fault.ScheduleFault.TheVariants.{Text, Memory}
use Rattle.machine.specs.declared.schedule.items.Item.{Item}
use Rattle.machine.specs.declared.schedule.items.Item.TheVariants.{Steps, Evict}
use Rattle.text.specs.Words.{words_of_lines}

-- decimal digits, leading zeros among them, of a number of 32 bits
pub record IsNumber (digits : List ℕ) (number : ℕ) : Type 0 where
  pub numeral : IsNumeral 10 digits
  pub value : number ≡ digits_value 10 digits
  pub small : number < 2 ^ 32

-- `hN`: one step of a hart
pub record IsStep (word : List ℕ) (hart count : ℕ) : Type 0 where
  pub hart_digits : List ℕ
  pub spelled : word ≡ codes "h" ++ hart_digits
  pub hart_number : IsNumber hart_digits hart
  pub one : count ≡ 1

-- `hN*K`: K steps of a hart, at least one
pub record IsSteps (word : List ℕ) (hart count : ℕ) : Type 0 where
  pub hart_digits : List ℕ
  pub count_digits : List ℕ
  pub spelled : word ≡ codes "h" ++ (hart_digits ++ (codes "*" ++ count_digits))
  pub hart_number : IsNumber hart_digits hart
  pub count_number : IsNumber count_digits count
  pub some : 1 ≤ count

-- `eL`: the eviction of a line
pub record IsEviction (word : List ℕ) (line : ℕ) : Type 0 where
  pub line_digits : List ℕ
  pub spelled : word ≡ codes "e" ++ line_digits
  pub line_number : IsNumber line_digits line

-- the word says the item
abbrev pub Says : List ℕ → Item → Type 0
Says word (Steps hart count) = IsStep word hart count ⊎ IsSteps word hart count
Says word (Evict line) = IsEviction word line

-- how many steps of harts an item and a list of items have
abbrev pub steps_in : Item → ℕ
steps_in (Steps hart count) = count
steps_in (Evict line) = 0

abbrev pub hart_steps : List Item → ℕ
hart_steps items = sum_by steps_in items

-- the words of the text say the items, one by one, and the steps of all harts together are fewer
-- than 2^32
pub record IsSchedule (text : List ℕ) (items : List Item) : Type 0 where
  pub says : AllZip Says (words_of_lines text) items
  pub within : hart_steps items < 2 ^ 32

-- what holds of a refusal that isn't want of memory
abbrev pub OnText : Type 0 → ScheduleFault → Type 0
OnText P Text = P
OnText P Memory = ⊤
