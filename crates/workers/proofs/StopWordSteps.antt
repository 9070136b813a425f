-- Each step keeps the rule.
use Rattle.std.proofs.Common.{◌≡◌, ◌≢◌, ◌⊎◌, ℕ, zero, suc, ◌+◌, ◌-◌, ◌<◌, ◌≤◌, Bool, true, false, min, List, [], ◌∷◌, get_or, set, refl, sym, ap, ◌∙◌, subst, ⊎_elim, arith, length-set, get_or-set_same}
use Rattle.std.specs.Prelude.{bit_or, ◌||◌, ◌==◌, if◌then◌else◌}
use Rattle.std.proofs.lemmas.Bool.{eqb-true}
use lib.Seq.{set-get_or}
use mathlib.Core.Option.{Option, some, some-injective, some-ne-none, none}
use mathlib.Core.Logic.{dite}
use native.Mathlib.Decide.{ℕ_discrete}
use lib.ListN.{get_elem?}
use Rattle.std.specs.List.{Contains}
use Rattle.std.proofs.lemmas.List.Elements.{Contains-append_cases, Contains-push_cases}
use Rattle.atomic_table.specs.Table.{State, Me, step, keeps, Allows, Splits, Joins}
use Rattle.atomic_table.proofs.Lists.{at_set, at_snoc, set_else}
use Rattle.workers.specs.declared.stop_word.rule.StopView.{StopView}
use Rattle.workers.specs.StopWordRule.{Kept, Fits, Raises, Looks, newcomer, with_raise, with_look, together, without_part, one_part, raises, total}
use Rattle.workers.proofs.Totals.{total_set, total-append, total_at, total_two, total_idle}

one_of : (word : ℕ) → word ≤ 1 → bit_or word 1 ≡ 1
one_of word l = dite (ℕ_discrete word 0) (λ e. ap (λ (k : ℕ). bit_or k 1) e) (λ ne. ap (λ (k : ℕ). bit_or k 1) (let e : word ≡ 1 = omega arith in e))

few : (v : StopView) → raises v ≤ 1
few v = of v.raised
  where
    of : (b : Bool) → (if b then 1 else 0) ≤ 1
    of true = omega arith
    of false = omega arith

pub raised_one : (v : StopView) → v.raised ≡ true → raises v ≡ 1
raised_one v e = ap (λ (b : Bool). if b then 1 else 0) e

-- two in one raised the word where one of them did
raised_both : (a b : Bool) → min 1 ((if a then 1 else 0) + (if b then 1 else 0)) ≡ (if (a || b) then 1 else 0)
raised_both true true = refl
raised_both true false = refl
raised_both false true = refl
raised_both false false = refl

-- another view in the place of one
fits_set : (word word' : ℕ) (views : List StopView) (id : ℕ) (w : StopView) → ((k : ℕ) (u : StopView) → get_elem? views k ≡ some u → Fits word u) → ((u : StopView) → Fits word u → Fits word' u) → Fits word' w
    → (k : ℕ) (u : StopView) → get_elem? (set views id w) k ≡ some u → Fits word' u
fits_set word word' views id w each more mine k u at = ⊎_elim
    (λ (t : (k ≡ id) × (w ≡ u)). subst (λ (x : StopView). Fits word' x) t.1 mine)
    (λ (t : (k ≢ id) × (get_elem? views k ≡ some u)). more u (each k u t.1))
    (at_set views id k w u at)

no_look : {A : Type 0} → Contains {X = Bool} [] true → A
no_look c = let l = c.1 in absurd (omega arith)

empty_fits : (word parts : ℕ) → Fits word (newcomer parts)
empty_fits word parts = record { idle = λ _. (refl, refl); seen = λ c. no_look c }

module _ {S : Type 0} where
  word_few : (n : ℕ) (s : State S StopView) → Kept n s → get_or s.words 0 0 ≤ 1
  word_few n s r = let w = r.word in omega arith

  pub raise_at : (n slots id : ℕ) (me : Me S StopView) → 0 < me.0.parts → Allows (Kept n) slots id me 0 (λ x. bit_or x 1) (Raises (step slots 0 1 0 none) me)
  raise_at n slots id me some_parts s r _ at _ =
      let v : StopView = me.0 in
      let word : ℕ = get_or s.words 0 0 in
      let w = with_raise v in
      let here : get_or (set s.words 0 (bit_or word 1)) 0 0 ≡ 1 = get_or-set_same s.words 0 (bit_or word 1) 0 (let l = r.one_word in omega arith) ∙ one_of word (word_few n s r) in
      let t = total_set raises s.views id v w at in
      let m = total_at raises s.views id v at in
      let mine = r.fits id v at in (
        w,
        keeps,
        tt,
        record {
          one_word = length-set s.words 0 (bit_or word 1) ∙ r.one_word;
          word = here ∙ (let one : raises w ≡ 1 = refl in omega arith);
          parts = let p = total_set (λ v. v.parts) s.views id v w at in let q = r.parts in omega arith;
          fits = subst (λ l. (k : ℕ) (u : StopView) → get_elem? (set s.views id w) k ≡ some u → Fits l u) (sym here)
              (fits_set word 1 s.views id w r.fits (λ u f. record { idle = f.idle; seen = λ _. refl }) record { idle = λ none. absurd (omega arith); seen = λ _. refl });
        },
        (refl, refl),
      )

  pub look_at : (n slots id : ℕ) (me : Me S StopView) → 0 < me.0.parts → Allows (Kept n) slots id me 0 (λ x. x) (Looks (step slots 0 0 0 none) me)
  look_at n slots id me some_parts s r _ at _ =
      let v : StopView = me.0 in
      let word : ℕ = get_or s.words 0 0 in
      let w = with_look v (word == 1) in
      let mine = r.fits id v at in
      let is = r.word in
      let own : v.raised ≡ true → word ≡ 1 = λ e. let one = raised_one v e in let m = total_at raises s.views id v at in omega arith in
      let here : ((v.raised ≡ true) ⊎ Contains v.found true) → word ≡ 1 = λ x. ⊎_elim own mine.seen x in (
        w,
        keeps,
        tt,
        subst (λ (ws : List ℕ). Kept n record { words = ws; homes = s.homes; views = set s.views id w }) (sym (set-get_or s.words 0 0)) record {
          one_word = r.one_word;
          word = let t = total_set raises s.views id v w at in omega arith;
          parts = let p = total_set (λ v. v.parts) s.views id v w at in let q = r.parts in omega arith;
          fits = fits_set word word s.views id w r.fits (λ u f. f) record {
            idle = λ none. absurd (omega arith);
            seen = λ c. ⊎_elim mine.seen (λ (e : (word == 1) ≡ true). eqb-true word 1 e) (Contains-push_cases v.found (word == 1) true c);
          };
        },
        (refl, refl, here),
      )

  -- the first seat's view in two, before any step
  pub cuts_at : (n id parts : ℕ) → 0 < parts → Splits (Kept {S = S} n) id (newcomer parts) (without_part (newcomer parts)) (one_part (newcomer parts))
  cuts_at n id parts some_parts s r at =
      let v = newcomer parts in
      let left = without_part v in
      let right = one_part v in
      let word : ℕ = get_or s.words 0 0 in
      let views : List StopView = set s.views id left in
      let is = r.word in
      record {
        one_word = r.one_word;
        word = let t = total_set raises s.views id v left at in let u = total-append raises views (right ∷ []) in omega arith;
        parts = let t = total_set (λ v. v.parts) s.views id v left at in let u = total-append (λ v. v.parts) views (right ∷ []) in let o = r.parts in omega arith;
        fits = λ k u e. ⊎_elim
            (fits_set word word s.views id left r.fits (λ u f. f) (empty_fits word (parts - 1)) k u)
            (λ (t : right ≡ u). subst (Fits word) t (empty_fits word 1))
            (at_snoc views right u k e);
      }

  -- a thread's seat is taken in
  pub joins_at : (n id : ℕ) (v : StopView) (other : ℕ) (u : StopView) → 0 < u.parts → Joins (Kept {S = S} n) id v other u (together v u) (newcomer 0)
  joins_at n id v other u some_parts s r at apart there =
      let both = together v u in
      let word : ℕ = get_or s.words 0 0 in
      let views : List StopView = set s.views id both in
      let theirs_at : get_elem? s.views other ≡ some u = sym (set_else s.views id other both apart) ∙ there in
      let mine = r.fits id v at in
      let theirs = r.fits other u theirs_at in
      let is = r.word in
      record {
        one_word = r.one_word;
        word =
            let t = total_set raises s.views id v both at in
            let t' = total_set raises views other u (newcomer 0) there in
            let b : min 1 (raises v + raises u) ≡ raises both = raised_both v.raised u.raised in
            let m = total_two raises s.views id other v u apart at theirs_at in omega arith;
        parts = let t = total_set (λ v. v.parts) s.views id v both at in let t' = total_set (λ v. v.parts) views other u (newcomer 0) there in let o = r.parts in omega arith;
        fits = fits_set word word views other (newcomer 0)
            (fits_set word word s.views id both r.fits (λ u f. f) record {
              idle = λ none. absurd (omega arith);
              seen = λ c. ⊎_elim mine.seen theirs.seen (Contains-append_cases v.found u.found true c);
            })
            (λ u f. f)
            (empty_fits word 0);
      }

  -- before any step
  pub begins : (n : ℕ) (homes : List (Option S)) → Kept n record { words = 0 ∷ []; homes = homes; views = newcomer n ∷ [] }
  begins n homes = record { one_word = refl; word = refl; parts = omega arith; fits = one }
    where
      one : (k : ℕ) (v : StopView) → get_elem? (newcomer n ∷ []) k ≡ some v → Fits 0 v
      one zero v e = subst (Fits 0) (some-injective _ _ e) (empty_fits 0 n)
      one (suc k) v e = absurd (some-ne-none v (sym e))

  -- what a view of all parts knows
  pub knows_all : (n id : ℕ) (v : StopView) (s : State S StopView) → Kept n s → get_elem? s.views id ≡ some v → v.parts ≡ n
      → (get_or s.words 0 0 ≡ raises v) × (Contains v.found true → get_or s.words 0 0 ≡ 1)
  knows_all n id v s r at all =
      let empty = newcomer 0 in
      let word : ℕ = get_or s.words 0 0 in
      let views : List StopView = set s.views id empty in
      let none_left : total (λ v. v.parts) views ≡ 0 = let t = total_set (λ v. v.parts) s.views id v empty at in let p = r.parts in omega arith in
      let out = fits_set word word s.views id empty r.fits (λ u f. f) (empty_fits word 0) in
      let none : total raises views ≡ 0 = total_idle raises (λ v. v.parts) views (λ k u e idle. ap (λ (b : Bool). if b then 1 else 0) ((out k u e).idle idle).0) none_left in
      let t = total_set raises s.views id v empty at in
      let is = r.word in
      let few_v = few v in
      (omega arith, (r.fits id v at).seen)
