-- The items of a schedule's text.
use Rattle.std.specs.Prelude.{◌≡◌, ◌⊎◌, ℕ, ◌+◌, ◌==◌, nat_le, Bool, false, List, [], ◌∷◌, ◌++◌, Some, None, All, codes, if◌then◌else◌, length, option_map, position, slice_get}
use Rattle.std.specs.List.{list_any}
use Rattle.machine.specs.Grammar.{IsSchedule}
use Rattle.machine.specs.declared.schedule.items.Item.{Item}
use Rattle.machine.specs.declared.schedule.items.Item.TheVariants.{Steps, Evict}
use Rattle.text.specs.Words.{words_of_lines}
use Rattle.command_line.specs.declared.failure.Limit.{Limit}
use Rattle.command_line.specs.declared.failure.Limit.TheVariants.{Harts, Lines}

-- a text that is a schedule, as each item alone is
abbrev pub IsScheduleText : List ℕ → Type 0
IsScheduleText text = (items : List Item) × IsSchedule text items

-- the first word that isn't one, with its number from 1
pub record IsFirstBad (text : List ℕ) (number : ℕ) (word : List ℕ) : Type 0 where
  pub before : List (List ℕ)
  pub after : List (List ℕ)
  pub parted : words_of_lines text ≡ before ++ (word ∷ after)
  pub items : All IsScheduleText before
  pub bad : ¬ IsScheduleText word
  pub number_is : number ≡ length before + 1

-- an item goes past a limit: its hart, or its cache line, isn't there
abbrev pub is_beyond : Limit → Item → Bool
is_beyond (Harts harts) (Steps hart count) = nat_le harts hart
is_beyond (Lines lines) (Evict line) = nat_le lines line
is_beyond limit item = false

-- the number of the hart or of the cache line that an item names
abbrev pub named_by : Item → ℕ
named_by (Steps hart count) = hart
named_by (Evict line) = line

-- the first item of a schedule's text that goes past a limit: its number from 1, the word that says it, and the number that it names
pub record IsFirstBeyond (limit : Limit) (text : List ℕ) (number : ℕ) (word : List ℕ) (named : ℕ) : Type 0 where
  pub items : List Item
  pub place : ℕ
  pub says : IsSchedule text items
  pub first : position (is_beyond limit) items ≡ Some place
  pub word_is : slice_get (words_of_lines text) place ≡ Some word
  pub number_is : number ≡ place + 1
  pub named_is : option_map named_by (slice_get items place) ≡ Some named

-- the text is no schedule, or none of its items goes past it
pub record IsWithin (limit : Limit) (text : List ℕ) : Type 0 where
  pub items : List Item
  pub says : IsSchedule text items
  pub none : position (is_beyond limit) items ≡ None

abbrev pub HasNoneBeyond : Limit → List ℕ → Type 0
HasNoneBeyond limit text = (¬ IsScheduleText text) ⊎ IsWithin limit text

-- an item has neither CR, tabs nor `#`
abbrev pub word_hint : List ℕ → List ℕ
word_hint word =
    if list_any (λ byte. byte == 13) word then codes "lines end with LF, without CR"
    else (if list_any (λ byte. byte == 9) word then codes "items are parted by spaces, not tabs"
    else (if list_any (λ byte. byte == 35) word then codes "comments aren't taken" else []))
