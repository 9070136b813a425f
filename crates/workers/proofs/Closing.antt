-- What the last state of a desk says of its seats.
use Rattle.std.proofs.Common.{◌≡◌, ◌⊎◌, ℕ, zero, suc, ◌+◌, ◌^◌, ◌<◌, ◌≤◌, Bool, true, false, List, [], ◌∷◌, ◌++◌, get_or, min, All, Some, None, refl, sym, ap, ◌∙◌, subst, inl, inr, ⊎_elim, arith, ne_eqb}
use Rattle.std.specs.Prelude.{Option, MatchBool, if◌then◌else◌}
use mathlib.Core.Option.{some, some-injective, some-ne-none}
use mathlib.Core.Logic.{dite}
use native.Mathlib.Decide.{ℕ_discrete}
use lib.ListN.{get_elem?}
use Rattle.std.specs.List.{Contains}
use Rattle.std.proofs.lemmas.List.Elements.{All-contains, Contains-append_right}
use Rattle.std.proofs.lemmas.Grind.{flat_map-append}
use Rattle.std.proofs.Common.{append-nil, length-append}
use Rattle.atomic_table.specs.Seated.{TableId}
use Rattle.atomic_table.specs.Table.{Final, Seen, Splits}
use Rattle.workers.specs.declared.rule.DeskView.{DeskView}
use Rattle.workers.specs.Counts.{weigh, weigh_below}
use Rattle.workers.specs.Desks.{Name, Sitting, fresh, nothing, moment_of, word_of, IsLeastOf, all_bad, all_claimed, all_found, ended_count}
use Rattle.workers.specs.Rule.{Kept, Closes, Gathers, newcomer, together, without_part, one_part}
use Rattle.workers.proofs.Steps.{knows_all, cuts_at}

read : (xs : List ℕ) (i x : ℕ) → get_elem? xs i ≡ some x → get_or xs i 0 ≡ x
read [] i x at = absurd (some-ne-none x (sym at))
read (y ∷ xs) zero x at = some-injective y x at
read (y ∷ xs) (suc i) x at = read xs i x at

pub cuts_as : {S : Type 0} (n workers id parts : ℕ) (v : DeskView) → v ≡ newcomer parts n → 0 < parts → Splits (Kept {S = S} n workers) id v (without_part v) (one_part v)
cuts_as {S} n workers id parts v is some_parts = subst (λ (u : DeskView). Splits (Kept {S = S} n workers) id u (without_part u) (one_part u)) (sym is) (cuts_at n workers id parts some_parts)

pub closes_at : {S : Type 0} (n workers id : ℕ) (v : DeskView) (words : List ℕ) (slots : List S) (claims word : ℕ) → Final (Seen (Kept {S = S} n workers) id v) words slots → get_elem? words 0 ≡ some claims → get_elem? words 1 ≡ some word → v.parts ≡ workers
    → Closes n v claims word
closes_at n workers id v words slots claims word final first second all =
    let s = final.0 in
    let same = final.2 in
    let known = knows_all n workers id v s final.1.0 final.1.1 all in
    subst (λ (p : ℕ × ℕ). Closes n v p.0 p.1) (λ i. ((ap (λ ws. get_or ws 0 0) same ∙ read words 0 claims first) i, (ap (λ ws. get_or ws 1 0) same ∙ read words 1 word second) i)) known

-- a seat that has had nothing, where its desk is this one
pub fresh_at : (s : Sitting) (table : TableId) (moments : ℕ) (name : Name) → s ≡ fresh record { table = table; moments = moments } → table ≡ name.table → moments ≡ name.moments → s ≡ fresh name
fresh_at s table moments name is tables numbers = is ∙ (λ k. fresh record { table = tables k; moments = numbers k })

-- how many were given out, from the claim word
pub given_is : (n : ℕ) (v : DeskView) (claims word given : ℕ) (r : Closes n v claims word) → given ≡ min claims n → given ≡ r.given
given_is n v claims word given r is =
    let inside : claims < n → given ≡ claims = λ l. omega arith in
    let outside : n ≤ claims → given ≡ n = λ l. omega arith in
    let over = r.over in let within = r.within in let full = r.full in
    dite (ℕ_discrete v.ended 0)
    (λ none. dite (ℕ_discrete claims n) (λ e. let o = outside (omega arith) in omega arith) (λ ne. let i = inside (omega arith) in omega arith))
    (λ some_ended. let f = full (omega arith) in let o = outside (omega arith) in omega arith)

pub word_small : (n : ℕ) (v : DeskView) (claims word : ℕ) (r : Closes n v claims word) → (word ≡ nothing) ⊎ (word < 2 ^ 32)
word_small n v claims word r = ⊎_elim (λ (e : word ≡ nothing). inl e) (λ (c : Contains v.bad word). inr (All-contains (λ b. (word ≤ b) × (b < 2 ^ 32)) v.bad word r.reported c).1) r.least

none_bad : (xs : List ℕ) → All (λ b. (nothing ≤ b) × (b < 2 ^ 32)) xs → xs ≡ []
none_bad [] all = refl
none_bad (x ∷ xs) all = let h = all 0 0 (omega arith) in absurd (omega arith)

small_is : (word : ℕ) → word < 2 ^ 32 → moment_of word ≡ Some word
small_is word small = ap (λ (b : Bool). if b then None else Some word) (ne_eqb word nothing (λ e. omega arith))

pub least_is : (n : ℕ) (v : DeskView) (claims word : ℕ) (r : Closes n v claims word) → IsLeastOf v.bad (moment_of word)
least_is n v claims word r = ⊎_elim
    (λ (e : word ≡ nothing). subst (λ (w : ℕ). IsLeastOf v.bad (moment_of w)) (sym e) (none_bad v.bad (subst (λ (w : ℕ). All (λ b. (w ≤ b) × (b < 2 ^ 32)) v.bad) e r.reported)))
    (λ (c : Contains v.bad word). subst (IsLeastOf v.bad) (sym (small_is word (All-contains (λ b. (word ≤ b) × (b < 2 ^ 32)) v.bad word r.reported c).1)) (c, λ k d l. (r.reported k d l).0))
    r.least

pub found_is : (n : ℕ) (v : DeskView) (claims word : ℕ) (r : Closes n v claims word) → All (λ x. word_of (moment_of word) ≤ x) v.found
found_is n v claims word r = ⊎_elim
    (λ (e : word ≡ nothing). subst (λ (w : ℕ). All (λ x. word_of (moment_of w) ≤ x) v.found) (sym e) (subst (λ (w : ℕ). All (λ x. w ≤ x) v.found) e r.looked))
    (λ (l : word < 2 ^ 32). subst (λ (o : Option ℕ). All (λ x. word_of o ≤ x) v.found) (sym (small_is word l)) r.looked)
    (word_small n v claims word r)

pub ended-append : (xs ys : List Sitting) → ended_count (xs ++ ys) ≡ ended_count xs + ended_count ys
ended-append [] ys = omega arith
ended-append (x ∷ xs) ys = let i = ended-append xs ys in omega arith

-- one seat more
pub gathers_more : (seats : List Sitting) (v : DeskView) (s : Sitting) (u : DeskView) → Gathers seats v → u.parts ≡ 1 → u.claimed ≡ s.claimed → u.ended ≡ (if s.ended then 1 else 0) → u.bad ≡ s.bad → u.found ≡ s.found
    → Gathers (seats ++ s ∷ []) (together v u)
gathers_more seats v s u so_far one claimed ended bad found = record {
  parts = let a = length-append seats (s ∷ []) in let b = so_far.parts in omega arith;
  claimed = ap (λ l. l ++ u.claimed) so_far.claimed ∙ (ap (λ l. all_claimed seats ++ l) (claimed ∙ sym (append-nil s.claimed)) ∙ sym (flat_map-append (λ (x : Sitting). x.claimed) seats (s ∷ [])));
  ended = let a = ended-append seats (s ∷ []) in let b = so_far.ended in omega arith;
  bad = ap (λ l. l ++ u.bad) so_far.bad ∙ (ap (λ l. all_bad seats ++ l) (bad ∙ sym (append-nil s.bad)) ∙ sym (flat_map-append (λ (x : Sitting). x.bad) seats (s ∷ [])));
  found = ap (λ l. l ++ u.found) so_far.found ∙ (ap (λ l. all_found seats ++ l) (found ∙ sym (append-nil s.found)) ∙ sym (flat_map-append (λ (x : Sitting). x.found) seats (s ∷ [])));
}

-- one seat alone
pub gathers_one : (s : Sitting) (u : DeskView) → u.parts ≡ 1 → u.claimed ≡ s.claimed → u.ended ≡ (if s.ended then 1 else 0) → u.bad ≡ s.bad → u.found ≡ s.found → Gathers (s ∷ []) u
gathers_one s u one claimed ended bad found = record {
  parts = one;
  claimed = claimed ∙ sym (append-nil s.claimed);
  ended = omega arith;
  bad = bad ∙ sym (append-nil s.bad);
  found = found ∙ sym (append-nil s.found);
}

-- what holds of each holds of the next
pub next_of : {X : Type 0} (P : X → Type 0) (all before rest after : List X) (x : X) → All P all → before ++ rest ≡ all → rest ≡ x ∷ after → P x
next_of {X} P all before rest after x each whole next = All-contains P all x each (subst (λ l. Contains l x) (ap (λ l. before ++ l) (sym next) ∙ whole) (Contains-append_right before (x ∷ after) x (0, omega arith, refl)))

pub ended_is : (b b' : Bool) (k : ℕ) → MatchBool b (k ≡ 1) (k ≡ 0) → b ≡ b' → k ≡ (if b' then 1 else 0)
ended_is b b' k is same = at b' (subst (λ x. MatchBool x (k ≡ 1) (k ≡ 0)) same is)
  where
    at : (b : Bool) → MatchBool b (k ≡ 1) (k ≡ 0) → k ≡ (if b then 1 else 0)
    at true e = e
    at false e = e

module _ (n : ℕ) (v : DeskView) (claims word given : ℕ) (seats : List Sitting) (r : Closes n v claims word) (g : Gathers seats v) where
  pub once_of : given ≡ min claims n → (h : ℕ → ℕ) → weigh h (all_claimed seats) ≡ weigh_below h given
  once_of is h = ap (weigh h) (sym g.claimed) ∙ (r.once h ∙ ap (weigh_below h) (sym (given_is n v claims word given r is)))

  pub full_of : given ≡ min claims n → 0 < ended_count seats → given ≡ n
  full_of is some_ended = let e = g.ended in given_is n v claims word given r is ∙ r.full (omega arith)

  pub least_of : IsLeastOf (all_bad seats) (moment_of word)
  least_of = subst (λ xs. IsLeastOf xs (moment_of word)) g.bad (least_is n v claims word r)

  pub found_of : All (λ x. word_of (moment_of word) ≤ x) (all_found seats)
  found_of = subst (λ xs. All (λ x. word_of (moment_of word) ≤ x) xs) g.found (found_is n v claims word r)
