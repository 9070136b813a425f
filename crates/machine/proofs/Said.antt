-- The items that a text's words say, as far as they are read.
use Rattle.std.proofs.Common.{◌≡◌, ℕ, List, [], ◌∷◌, ◌++◌, refl, ◌∙◌, append_assoc, append-nil}
use Rattle.std.specs.List.{AllZip}
use Rattle.machine.specs.Grammar.{Says}
use Rattle.text.specs.Words.{words_of_lines as words}
use Rattle.machine.specs.declared.schedule.items.Item.{Item}

-- the items are what the words before the rest say
pub record IsRead (text : List ℕ) (items : List Item) (rest : List ℕ) : Type 0 where
  pub front : List (List ℕ)
  pub whole : words text ≡ front ++ words rest
  pub says : AllZip Says front items

pub nothing_said : (text : List ℕ) → IsRead text [] text
nothing_said text = record { front = []; whole = refl; says = tt }

zip_more : (front : List (List ℕ)) (items : List Item) (word : List ℕ) (item : Item) → AllZip Says front items → Says word item
    → AllZip Says (front ++ word ∷ []) (items ++ item ∷ [])
zip_more [] [] word item says more = (more, tt)
zip_more [] (i ∷ is) word item says more = absurd says
zip_more (w ∷ ws) [] word item says more = absurd says
zip_more (w ∷ ws) (i ∷ is) word item says more = (says.0, zip_more ws is word item says.1 more)

pub one_more_said : (text : List ℕ) (items : List Item) (rest word after : List ℕ) (item : Item) → IsRead text items rest
    → words rest ≡ word ∷ words after → Says word item → IsRead text (items ++ item ∷ []) after
one_more_said text items rest word after item read begins more = record {
  front = read.front ++ word ∷ [];
  whole = read.whole ∙ rw (begins, append_assoc) refl;
  says = zip_more read.front items word item read.says more;
}

pub all_said : (text : List ℕ) (items : List Item) (rest : List ℕ) → IsRead text items rest → words rest ≡ []
    → AllZip Says (words text) items
all_said text items rest read ends = rw (read.whole, ends, append-nil) read.says

unsaid : (front : List (List ℕ)) (word : List ℕ) (more : List (List ℕ)) (all : List Item) → ((item : Item) → ¬ (Says word item))
    → AllZip Says (front ++ word ∷ more) all → ⊥
unsaid [] word more [] none zip = zip
unsaid [] word more (i ∷ is) none zip = none i zip.0
unsaid (w ∷ ws) word more [] none zip = zip
unsaid (w ∷ ws) word more (i ∷ is) none zip = unsaid ws word more is none zip.1

pub none_says : (text : List ℕ) (items : List Item) (rest word after : List ℕ) → IsRead text items rest
    → words rest ≡ word ∷ words after → ((item : Item) → ¬ (Says word item)) → (all : List Item) → ¬ (AllZip Says (words text) all)
none_says text items rest word after read begins none all zip =
    unsaid read.front word (words after) all none (rw (read.whole, begins) at zip)
