-- What the last state of a stop word says of its seats.
use Rattle.std.proofs.Common.{◌≡◌, ℕ, zero, suc, ◌<◌, Bool, true, false, List, [], ◌∷◌, ◌++◌, get_or, All, refl, sym, ap, ◌∙◌, subst, arith, append-nil, length-append}
use Rattle.std.specs.Prelude.{◌||◌, ◌==◌, if◌then◌else◌}
use mathlib.Core.Option.{some, some-injective, some-ne-none}
use lib.ListN.{get_elem?}
use Rattle.std.specs.List.{Contains, list_any}
use Rattle.std.proofs.lemmas.List.Elements.{All-contains, Contains-append_right}
use Rattle.std.proofs.lemmas.List.Folds.{list_any-append}
use Rattle.std.proofs.lemmas.Grind.{flat_map-append}
use Rattle.atomic_table.specs.Table.{Final, Seen, Splits}
use Rattle.workers.specs.declared.stop_word.rule.StopView.{StopView}
use Rattle.workers.specs.Stops.{Sitting, all_found}
use Rattle.workers.specs.StopWordRule.{Kept, Gathers, newcomer, together, without_part, one_part}
use Rattle.workers.proofs.StopWordSteps.{knows_all, cuts_at}

read : (xs : List ℕ) (i x : ℕ) → get_elem? xs i ≡ some x → get_or xs i 0 ≡ x
read [] i x at = absurd (some-ne-none x (sym at))
read (y ∷ xs) zero x at = some-injective y x at
read (y ∷ xs) (suc i) x at = read xs i x at

pub cuts_as : {S : Type 0} (n id parts : ℕ) (v : StopView) → v ≡ newcomer parts → 0 < parts → Splits (Kept {S = S} n) id v (without_part v) (one_part v)
cuts_as {S} n id parts v is some_parts = subst (λ (u : StopView). Splits (Kept {S = S} n) id u (without_part u) (one_part u)) (sym is) (cuts_at n id parts some_parts)

is_one : (b : Bool) → ((if b then 1 else 0) == 1) ≡ b
is_one true = refl
is_one false = refl

-- the word at the end
module _ {S : Type 0} (n id : ℕ) (v : StopView) (words : List ℕ) (slots : List S) (word : ℕ) (final : Final (Seen (Kept n) id v) words slots) (first : get_elem? words 0 ≡ some word) (all : v.parts ≡ n) where
  word_is : get_or final.0.words 0 0 ≡ word
  word_is = ap (λ ws. get_or ws 0 0) final.2 ∙ read words 0 word first

  pub raised_at : (word == 1) ≡ v.raised
  raised_at = ap (λ (k : ℕ). k == 1) (sym word_is ∙ (knows_all n id v final.0 final.1.0 final.1.1 all).0) ∙ is_one v.raised

  pub seen_at : Contains v.found true → (word == 1) ≡ true
  seen_at c = ap (λ (k : ℕ). k == 1) (sym word_is ∙ (knows_all n id v final.0 final.1.0 final.1.1 all).1 c)

or_false : (b : Bool) → (b || false) ≡ b
or_false true = refl
or_false false = refl

-- one seat more
pub gathers_more : (seats : List Sitting) (v : StopView) (s : Sitting) (u : StopView) → Gathers seats v → u.parts ≡ 1 → u.raised ≡ s.raised → u.found ≡ s.found → Gathers (seats ++ s ∷ []) (together v u)
gathers_more seats v s u so_far one raised found = record {
  parts = let a = length-append seats (s ∷ []) in let b = so_far.parts in omega arith;
  raised = ap (λ b. b || u.raised) so_far.raised ∙ (ap (λ b. list_any (λ (x : Sitting). x.raised) seats || b) (raised ∙ sym (or_false s.raised)) ∙ sym (list_any-append (λ (x : Sitting). x.raised) seats (s ∷ [])));
  found = ap (λ l. l ++ u.found) so_far.found ∙ (ap (λ l. all_found seats ++ l) (found ∙ sym (append-nil s.found)) ∙ sym (flat_map-append (λ (x : Sitting). x.found) seats (s ∷ [])));
}

-- one seat alone
pub gathers_one : (s : Sitting) (u : StopView) → u.parts ≡ 1 → u.raised ≡ s.raised → u.found ≡ s.found → Gathers (s ∷ []) u
gathers_one s u one raised found = record {
  parts = one;
  raised = raised ∙ sym (or_false s.raised);
  found = found ∙ sym (append-nil s.found);
}

-- what holds of each holds of the next
pub next_of : {X : Type 0} (P : X → Type 0) (all before rest after : List X) (x : X) → All P all → before ++ rest ≡ all → rest ≡ x ∷ after → P x
next_of {X} P all before rest after x each whole next = All-contains P all x each (subst (λ l. Contains l x) (ap (λ l. before ++ l) (sym next) ∙ whole) (Contains-append_right before (x ∷ after) x (0, omega arith, refl)))
