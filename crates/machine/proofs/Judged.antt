-- How many steps the items of a text have, as far as it is read.
use Rattle.std.proofs.Common.{◌≡◌, ℕ, ◌+◌, ◌<◌, ◌≤◌, ◌^◌, List, [], ◌∷◌, ◌++◌, refl, sym, ap, ◌∙◌, arith}
use Rattle.std.proofs.lemmas.List.Sums.{sum_by-cons, sum_by_push}
use Rattle.std.specs.List.{AllZip}
use Rattle.machine.proofs.OneReading.{one_said}
use Rattle.machine.proofs.Said.{IsRead, all_said, none_says, nothing_said, one_more_said}
use Rattle.machine.specs.Grammar.{IsSchedule, Says, hart_steps, steps_in}
use Rattle.text.specs.Words.{words_of_lines as words}
use Rattle.machine.specs.declared.schedule.items.Item.{Item}

-- the words before the rest say items of so many steps
pub record IsSummed (text : List ℕ) (total : ℕ) (rest : List ℕ) : Type 0 where
  pub items : List Item
  pub read : IsRead text items rest
  pub sum : total ≡ hart_steps items

pub nothing_summed : (text : List ℕ) → IsSummed text 0 text
nothing_summed text = record { items = []; read = nothing_said text; sum = refl }

pub one_more_summed : (text : List ℕ) (total : ℕ) (rest word after : List ℕ) (item : Item) → IsSummed text total rest
    → words rest ≡ word ∷ words after → Says word item → IsSummed text (total + steps_in item) after
one_more_summed text total rest word after item summed begins more = record {
  items = summed.items ++ item ∷ [];
  read = one_more_said text summed.items rest word after item summed.read begins more;
  sum = ap (λ (n : ℕ). n + steps_in item) summed.sum ∙ sym (sum_by_push steps_in summed.items item);
}

pub all_summed : (text : List ℕ) (total : ℕ) (rest : List ℕ) → IsSummed text total rest → words rest ≡ [] → total < 2 ^ 32
    → (items : List Item) × IsSchedule text items
all_summed text total rest summed ends small =
    (summed.items, record { says = all_said text summed.items rest summed.read ends; within = rw (← summed.sum) small })

pub unsaid_here : (text : List ℕ) (total : ℕ) (rest word after : List ℕ) → IsSummed text total rest → words rest ≡ word ∷ words after
    → ((item : Item) → ¬ (Says word item)) → (all : List Item) → ¬ (IsSchedule text all)
unsaid_here text total rest word after summed begins none all is =
    none_says text summed.items rest word after summed.read begins none all is.says

-- what is said has no more steps than what is said with more words behind it
front_sum : (front more : List (List ℕ)) (items all : List Item) → AllZip Says front items → AllZip Says (front ++ more) all
    → hart_steps items ≤ hart_steps all
front_sum [] more [] all says zip = omega arith
front_sum [] more (i ∷ is) all says zip = absurd says
front_sum (w ∷ ws) more [] all says zip = absurd says
front_sum (w ∷ ws) more (i ∷ is) [] says zip = absurd zip
front_sum (w ∷ ws) more (i ∷ is) (b ∷ bs) says zip =
    let first = ap (λ (x : Item). steps_in x) (one_said w i b says.0 zip.0) in
    let rest = front_sum ws more is bs says.1 zip.1 in
    let left = sum_by-cons steps_in i is in
    let right = sum_by-cons steps_in b bs in omega arith

pub past_limit : (text : List ℕ) (total : ℕ) (rest word after : List ℕ) (item : Item) → IsSummed text total rest
    → words rest ≡ word ∷ words after → Says word item → ¬ (total + steps_in item < 2 ^ 32)
    → (all : List Item) → ¬ (IsSchedule text all)
past_limit text total rest word after item summed begins said over all is =
    let more = one_more_summed text total rest word after item summed begins said in
    let least = front_sum more.read.front (words after) more.items all more.read.says (rw more.read.whole at is.says) in
    let within = is.within in
    let sum = more.sum in over (omega arith)
