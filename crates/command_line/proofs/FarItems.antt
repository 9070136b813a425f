-- The first item of a schedule's text that goes past a limit, and the word that says it.
use Rattle.std.proofs.Common.{◌≡◌, ◌∙◌, ◌+◌, ◌-◌, ◌<◌, ℕ, List, [], ◌∷◌, Some, None, ap, arith, refl, suc, sym}
use Rattle.std.specs.Prelude.{length, option_map, position, slice_get}
use Rattle.std.proofs.Math.ListN.{get_or}
use Rattle.std.proofs.lemmas.Option.{slice_get-get_or}
use Rattle.std.proofs.lemmas.Slice.Zip.{AllZip-long}
use Rattle.machine.specs.Grammar.{IsSchedule, Says}
use Rattle.machine.specs.declared.schedule.items.Item.{Item}
use Rattle.command_line.specs.Items.{IsFirstBeyond, IsWithin, is_beyond, named_by}
use Rattle.command_line.specs.declared.failure.Limit.{Limit}
use Rattle.text.specs.Words.{words_of_lines as words}

-- one word further
pub next_place : (text rest word after : List ℕ) (place count : ℕ) → words rest ≡ word ∷ words after → count < place
    → slice_get (words text) place ≡ slice_get (words rest) (place - count)
    → slice_get (words text) place ≡ slice_get (words after) (place - (count + 1))
next_place text rest word after place count cut below so_far =
    let further : place - count ≡ suc (place - (count + 1)) = omega arith in
    so_far ∙ ap (λ (list : List (List ℕ)). slice_get list (place - count)) cut ∙ ap (slice_get (word ∷ words after)) further

-- the text ends before it
pub no_place : (text rest : List ℕ) (place left : ℕ) → words rest ≡ [] → slice_get (words text) place ≡ slice_get (words rest) left
    → None ≡ slice_get (words text) place
no_place text rest place left ended so_far = sym (so_far ∙ ap (λ (list : List (List ℕ)). slice_get list left) ended)

-- it is the next word
pub this_place : (text rest word after : List ℕ) (place count : ℕ) → words rest ≡ word ∷ words after → count ≡ place
    → slice_get (words text) place ≡ slice_get (words rest) (place - count) → Some word ≡ slice_get (words text) place
this_place text rest word after place count cut all so_far =
    let none_left : place - count ≡ 0 = omega arith in
    sym (so_far ∙ ap (λ (list : List (List ℕ)). slice_get list (place - count)) cut ∙ ap (slice_get (word ∷ words after)) none_left)

pub none_beyond : (limit : Limit) (text : List ℕ) (items : List Item) → IsSchedule text items → position (is_beyond limit) items ≡ None
    → IsWithin limit text
none_beyond limit text items says none = record { items = items; says = says; none = none }

-- each item has a word that says it
pub has_word : (limit : Limit) (text : List ℕ) (items : List Item) (place : ℕ) → IsSchedule text items → place < length items
    → slice_get (words text) place ≡ None → IsWithin limit text
has_word limit text items place says within lost =
    let long : length items ≡ length (words text) = AllZip-long Says (words text) items says.says in
    let found : slice_get (words text) place ≡ Some (get_or (words text) place []) = slice_get-get_or (words text) place [] (omega (arith, long, within)) in
    absurd (cc)

pub first_beyond : (limit : Limit) (text : List ℕ) (items : List Item) (place : ℕ) (word : List ℕ) (named : ℕ) → IsSchedule text items
    → position (is_beyond limit) items ≡ Some place → slice_get (words text) place ≡ Some word → option_map named_by (slice_get items place) ≡ Some named
    → IsFirstBeyond limit text (place + 1) word named
first_beyond limit text items place word named says first word_is named_is = record {
  items = items;
  place = place;
  says = says;
  first = first;
  word_is = word_is;
  number_is = refl;
  named_is = named_is;
}
