-- The text of joined items, as far as it is written.
use Rattle.std.proofs.Common.{◌≡◌, ℕ, ◌<◌, ◌^◌, List, [], ◌∷◌, ◌++◌, codes, refl, sym, ap, ◌∙◌, append_assoc, append-nil}
use Rattle.std.specs.List.{AllByRecursion}
use Rattle.machine.specs.Grammar.{hart_steps}
use Rattle.machine.specs.Joined.{item_text, joined, text_of}
use Rattle.machine.specs.Runs.{IsFirstJoined, IsWritable, Writes, separator}
use Rattle.machine.specs.declared.schedule.items.Item.{Item}
use Rattle.machine.specs.declared.schedule.items.Item.TheVariants.{Steps, Evict}

-- the text is that of the joined items before the rest
pub record IsWriting (items : List Item) (text : List ℕ) (rest : List Item) : Type 0 where
  pub front : List Item
  pub whole : joined items ≡ front ++ joined rest
  pub written : text ≡ text_of front
  pub writable : AllByRecursion IsWritable front
  pub within : hart_steps rest < 2 ^ 32

pub nothing_written : (items : List Item) → hart_steps items < 2 ^ 32 → IsWriting items [] items
nothing_written items within = record { front = []; whole = refl; written = refl; writable = tt; within = within }

text_more : (first : Item) (front : List Item) (item : Item) → text_of ((first ∷ front) ++ item ∷ []) ≡ text_of (first ∷ front) ++ (32 ∷ item_text item)
text_more first [] item = refl
text_more first (next ∷ front) item =
    ap (λ rest. item_text first ++ (32 ∷ rest)) (text_more next front item) ∙ sym (append_assoc (item_text first) (32 ∷ text_of (next ∷ front)) (32 ∷ item_text item))

-- a text of items isn't empty
parted : (first : Item) (front : List Item) → separator (text_of (first ∷ front)) ≡ codes " "
parted (Steps hart count) [] = refl
parted (Evict line) [] = refl
parted (Steps hart count) (next ∷ front) = refl
parted (Evict line) (next ∷ front) = refl

text_pushed : (front : List Item) (item : Item) → text_of (front ++ item ∷ []) ≡ text_of front ++ (separator (text_of front) ++ item_text item)
text_pushed [] item = refl
text_pushed (first ∷ front) item = text_more first front item ∙ rw (parted first front) refl

writable_more : (front : List Item) (item : Item) → AllByRecursion IsWritable front → IsWritable item → AllByRecursion IsWritable (front ++ item ∷ [])
writable_more [] item all more = (more, tt)
writable_more (first ∷ front) item all more = (all.0, writable_more front item all.1 more)

pub one_more_written : (items : List Item) (text new : List ℕ) (rest after : List Item) (item : Item) → IsWriting items text rest
    → IsFirstJoined rest item after → new ≡ text ++ (separator text ++ item_text item) → IsWriting items new after
one_more_written items text new rest after item writing first pushed = record {
  front = writing.front ++ item ∷ [];
  whole = writing.whole ∙ rw (first.first, append_assoc) refl;
  written = pushed ∙ rw writing.written (sym (text_pushed writing.front item));
  writable = writable_more writing.front item writing.writable first.writable;
  within = first.within;
}

pub all_written : (items : List Item) (text : List ℕ) (rest : List Item) → IsWriting items text rest → joined rest ≡ [] → Writes text (joined items)
all_written items text rest writing ends =
    let whole : joined items ≡ writing.front = writing.whole ∙ rw (ends, append-nil) refl in
    rw whole (record { written = writing.written; writable = writing.writable })
