-- A schedule's items with neighbouring steps of one hart as one item.
use Rattle.std.specs.Prelude.{◌≡◌, ◌≢◌, ◌≤◌, ◌+◌, ◌==◌, ◌++◌, ℕ, List, [], ◌∷◌, codes, if◌then◌else◌, map, ⊤}
use Rattle.std.specs.Fmt.{decimal}
use Rattle.std.specs.List.{join_with_byte}
use Rattle.machine.specs.Steps.{all_steps}
use Rattle.machine.specs.declared.schedule.items.Item.{Item}
use Rattle.machine.specs.declared.schedule.items.Item.TheVariants.{Steps, Evict}

-- as many steps of a hart as the count says before joined items
abbrev pub run_before : ℕ → ℕ → List Item → List Item
run_before hart count [] = Steps hart count ∷ []
run_before hart count (Evict line ∷ rest) = Steps hart count ∷ Evict line ∷ rest
run_before hart count (Steps next more ∷ rest) =
    if hart == next then Steps hart (count + more) ∷ rest else Steps hart count ∷ Steps next more ∷ rest

-- an item before joined items; no steps leave no item
abbrev pub item_before : Item → List Item → List Item
item_before (Evict line) rest = Evict line ∷ rest
item_before (Steps hart count) rest = if count == 0 then rest else run_before hart count rest

abbrev pub joined : List Item → List Item
joined [] = []
joined (item ∷ items) = item_before item (joined items)

-- an item is an eviction, or it has steps
abbrev pub HasSteps : Item → Type 0
HasSteps (Steps hart count) = 1 ≤ count
HasSteps (Evict line) = ⊤

-- two items aren't both steps of one hart
abbrev pub AreApart : Item → Item → Type 0
AreApart (Steps hart count) (Steps next more) = hart ≢ next
AreApart (Steps hart count) (Evict line) = ⊤
AreApart (Evict line) next = ⊤

-- items of which none is without steps, and no two neighbours are steps of one hart
abbrev pub AreJoined : List Item → Type 0
AreJoined [] = ⊤
AreJoined (item ∷ []) = HasSteps item
AreJoined (item ∷ next ∷ rest) = HasSteps item × AreApart item next × AreJoined (next ∷ rest)

-- joining keeps the steps, leaves nothing to join, and changes nothing where that is so already
pub record Joins (items all : List Item) : Type 0 where
  pub steps : all_steps all ≡ all_steps items
  pub parted : AreJoined all
  pub kept : AreJoined items → all ≡ items

-- how an item is written, and how items are: one space between each two
abbrev pub item_text : Item → List ℕ
item_text (Steps hart count) = codes "h" ++ (decimal hart ++ (codes "*" ++ decimal count))
item_text (Evict line) = codes "e" ++ decimal line

abbrev pub text_of : List Item → List ℕ
text_of items = join_with_byte 32 (map item_text items)
