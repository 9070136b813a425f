-- The words of a text before its first one that is no item of a schedule.
use Rattle.std.proofs.Common.{◌≡◌, ◌∙◌, ℕ, ◌+◌, ◌<◌, ◌≤◌, List, [], ◌∷◌, ◌++◌, length, length-append, append_assoc, append-nil, arith, refl}
use Rattle.std.specs.Prelude.{All}
use Rattle.std.proofs.lemmas.List.Elements.{All-nil, All-push}
use Rattle.command_line.specs.Items.{IsFirstBad, IsScheduleText}
use Rattle.text.specs.Words.{words_of_lines as words}

-- so many words before the rest of a text are items
pub record IsPassed (text : List ℕ) (number : ℕ) (rest : List ℕ) : Type 0 where
  pub before : List (List ℕ)
  pub whole : words text ≡ before ++ words rest
  pub items : All IsScheduleText before
  pub number_is : number ≡ length before

pub nothing_passed : (text : List ℕ) → IsPassed text 0 text
nothing_passed text = record { before = []; whole = refl; items = All-nil IsScheduleText; number_is = refl }

pub one_more_passed : (text rest word after : List ℕ) (number : ℕ) → IsPassed text number rest → words rest ≡ word ∷ words after
    → IsScheduleText word → IsPassed text (number + 1) after
one_more_passed text rest word after number passed begins item = record {
  before = passed.before ++ word ∷ [];
  whole = passed.whole ∙ rw (begins, append_assoc) refl;
  items = All-push IsScheduleText passed.before word passed.items item;
  number_is = omega (arith, passed.number_is, length-append passed.before (word ∷ []));
}

pub all_passed : (text rest : List ℕ) (number : ℕ) → IsPassed text number rest → words rest ≡ [] → All IsScheduleText (words text)
all_passed text rest number passed ends = rw (passed.whole, ends, append-nil) passed.items

pub first_bad : (text rest word after : List ℕ) (number : ℕ) → IsPassed text number rest → words rest ≡ word ∷ words after
    → (IsScheduleText word → ⊥) → IsFirstBad text (number + 1) word
first_bad text rest word after number passed begins bad = record {
  before = passed.before;
  after = words after;
  parted = passed.whole ∙ rw begins refl;
  items = passed.items;
  bad = bad;
  number_is = omega (arith, passed.number_is);
}
