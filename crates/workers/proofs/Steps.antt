-- Each step keeps the rule.
use Rattle.std.proofs.Common.{◌≡◌, ◌≢◌, ◌⊎◌, ℕ, zero, suc, ◌+◌, ◌%◌, ◌^◌, ◌<◌, ◌≤◌, min, List, [], ◌∷◌, ◌++◌, get_or, set, refl, sym, ap, ◌∙◌, subst, inl, inr, ⊎_elim, arith, le_refl, length-set, get_or-set_same, get_or-set_other, mod-eq_of_lt, le_trans}
use lib.Seq.{set-get_or}
use mathlib.Core.Option.{Option, some, some-injective, some-ne-none, none}
use mathlib.Core.Logic.{dite}
use native.Mathlib.Decide.{ℕ_discrete, dec_lt, dec_le}
use lib.ListN.{get_elem?}
use Rattle.std.specs.List.{Contains}
use Rattle.std.proofs.lemmas.List.Elements.{All-push, All-append, Contains-push, Contains-append_left, Contains-append_right, All-contains}
use Rattle.atomic_table.specs.Table.{State, Me, step, keeps, stepped, Allows, Splits, Joins}
use Rattle.atomic_table.proofs.Lists.{at_set, at_snoc, set_here, set_else, at_longer}
use Rattle.workers.specs.declared.rule.DeskView.{DeskView}
use Rattle.workers.specs.Counts.{weigh, weigh_below, total}
use Rattle.workers.specs.Desks.{nothing}
use Rattle.workers.specs.Rule.{Kept, Fits, IsReported, newcomer, with_claim, with_end, with_bad, with_found, together, without_part, one_part, Closes, Claims, Looks, Reports}
use Rattle.workers.proofs.Lists.{weigh-append, total_set, total-append, below, total_at, total_idle, total_most, weigh-ones, weigh_below-ones}

-- another view in the place of one that reported no more
reported_set : (least : ℕ) (views : List DeskView) (id : ℕ) (v w : DeskView) → get_elem? views id ≡ some v → (Contains v.bad least → Contains w.bad least) → IsReported least views → IsReported least (set views id w)
reported_set least views id v w at more (inl e) = inl e
reported_set least views id v w at more (inr r) = dite (ℕ_discrete r.0 id)
    (λ same. inr (id, w, set_here views id w (below views id v at), more (subst (λ (u : DeskView). Contains u.bad least) (some-injective r.1 v (sym r.2 ∙ ap (λ k. get_elem? views k) same ∙ at)) r.3)))
    (λ other. inr (r.0, r.1, set_else views id r.0 w other ∙ r.2, r.3))

longer : (least : ℕ) (views more : List DeskView) → IsReported least views → IsReported least (views ++ more)
longer least views more (inl e) = inl e
longer least views more (inr t) = inr (t.0, t.1, at_longer views more t.0 t.1 t.2, t.3)

fits_set : (n least least' : ℕ) (views : List DeskView) (id : ℕ) (w : DeskView) → ((k : ℕ) (u : DeskView) → get_elem? views k ≡ some u → Fits n least u) → ((u : DeskView) → Fits n least u → Fits n least' u) → Fits n least' w
    → (k : ℕ) (u : DeskView) → get_elem? (set views id w) k ≡ some u → Fits n least' u
fits_set n least least' views id w each weaker mine k u at = ⊎_elim
    (λ (t : (k ≡ id) × (w ≡ u)). subst (λ (x : DeskView). Fits n least' x) t.1 mine)
    (λ (t : (k ≢ id) × (get_elem? views k ≡ some u)). weaker u (each k u t.1))
    (at_set views id k w u at)

-- a lesser least word asks less of each view
fits_less : (n least least' : ℕ) → least' ≤ least → (u : DeskView) → Fits n least u → Fits n least' u
fits_less n least least' less u f = record {
  idle = f.idle;
  knows = f.knows;
  ends = f.ends;
  reported = λ k d l. let h = f.reported k d l in (le_trans less h.0, h.1);
  looked = λ k d l. le_trans less (f.looked k d l);
}

min_cases : (a b : ℕ) → ((min a b ≡ a) × (a ≤ b)) ⊎ ((min a b ≡ b) × (b ≤ a))
min_cases a b = dite (dec_le a b) (λ l. inl (omega arith, l)) (λ n. inr (omega arith, omega arith))

module _ {S : Type 0} where
  -- no more have had a None than there are workers
  ended_most : (n workers : ℕ) (s : State S DeskView) (r : Kept n workers s) → total (λ v. v.ended) s.views ≤ workers
  ended_most n workers s r = let m = total_most (λ v. v.ended) (λ v. v.parts) s.views (λ k v at. (r.fits k v at).ends) in let p = r.parts in omega arith

  pub claim_at : (n workers : ℕ) → n < 2 ^ 32 → workers < 2 ^ 32 → (slots id : ℕ) (me : Me S DeskView) → me.0.ended < me.0.parts
      → Allows (Kept n workers) slots id me 0 (λ x. (x + 1) % 2 ^ 64) (Claims (step slots 0 1 0 none) me)
  claim_at n workers small few slots id me free s r _ at _ =
      let v : DeskView = me.0 in
      let mine = r.fits id v at in
      let x : ℕ = get_or s.words 0 0 in
      let y : ℕ = (x + 1) % 2 ^ 64 in
      let wide = r.wide in
      let most = ended_most n workers s r in
      let over = r.over in
      let within = r.within in
      let full = r.full in
      let knows : v.moments ≡ n = mine.knows (omega arith) in
      let up : y ≡ x + 1 = mod-eq_of_lt (omega arith) in
      let here : get_or (set s.words 0 y) 0 0 ≡ y = get_or-set_same s.words 0 y 0 (omega arith) in
      let there : get_or (set s.words 0 y) 1 0 ≡ get_or s.words 1 0 = get_or-set_other s.words 0 1 y 0 (λ e. omega arith) in
      let least : ℕ = get_or s.words 1 0 in
      dite (dec_lt x v.moments)
      (λ inside.
      let w = with_claim v x in
      let none_ended : total (λ v. v.ended) s.views ≡ 0 = dite (ℕ_discrete (total (λ v. v.ended) s.views) 0) (λ e. e) (λ ne. let g = full (omega arith) in absurd (omega arith)) in
      let ended = total_set (λ v. v.ended) s.views id v w at in
      let parts = total_set (λ v. v.parts) s.views id v w at in
      let p = r.parts in
      let is : r.given ≡ x = omega arith in (
        w,
        keeps,
        tt,
        record {
          given = suc x;
          within = omega arith;
          over = omega arith;
          full = λ some_ended. absurd (omega arith);
          once = λ h.
              let t = total_set (λ v. weigh h v.claimed) s.views id v w at in
              let o = r.once h ∙ ap (weigh_below h) is in
              let a = weigh-append h v.claimed (x ∷ []) in omega arith;
          parts = omega arith;
          wide = length-set s.words 0 y ∙ wide;
          fits = subst (λ l. (k : ℕ) (u : DeskView) → get_elem? (set s.views id w) k ≡ some u → Fits n l u) (sym there)
              (fits_set n least least s.views id w r.fits (λ u f. f) record { idle = λ none. absurd (omega arith); knows = mine.knows; ends = mine.ends; reported = mine.reported; looked = mine.looked });
          least = subst (λ l. IsReported l (set s.views id w)) (sym there) (reported_set least s.views id v w at (λ c. c) r.least);
        },
        (
          refl,
          (λ _. refl),
          (λ out. absurd (omega arith)),
          λ _.
              let o = r.once (λ _. 1) in
              let one = total_at (λ v. weigh (λ _. 1) v.claimed) s.views id v at in
              let a = weigh-ones v.claimed in let b = weigh_below-ones r.given in omega arith,
        ),
      ))
      (λ outside.
      let w = with_end v in
      let ended = total_set (λ v. v.ended) s.views id v w at in
      let parts = total_set (λ v. v.parts) s.views id v w at in
      let p = r.parts in
      let all : r.given ≡ n = dite (ℕ_discrete (total (λ v. v.ended) s.views) 0) (λ e. omega arith) (λ ne. full (omega arith)) in (
        w,
        keeps,
        tt,
        record {
          given = r.given;
          within = within;
          over = omega arith;
          full = λ _. all;
          once = λ h. let t = total_set (λ v. weigh h v.claimed) s.views id v w at in let o = r.once h in omega arith;
          parts = omega arith;
          wide = length-set s.words 0 y ∙ wide;
          fits = subst (λ l. (k : ℕ) (u : DeskView) → get_elem? (set s.views id w) k ≡ some u → Fits n l u) (sym there)
              (fits_set n least least s.views id w r.fits (λ u f. f) record { idle = mine.idle; knows = mine.knows; ends = omega arith; reported = mine.reported; looked = mine.looked });
          least = subst (λ l. IsReported l (set s.views id w)) (sym there) (reported_set least s.views id v w at (λ c. c) r.least);
        },
        (refl, (λ inside. absurd (omega arith)), (λ _. refl), λ inside. absurd (omega arith)),
      ))

  -- a step that changes no word, and the seat's view only so that its parts, claims and ends stay
  unmoved : (n workers i id : ℕ) (s : State S DeskView) (r : Kept n workers s) (v w : DeskView) (cs : List (ℕ × S)) → get_elem? s.views id ≡ some v
      → w.parts ≡ v.parts → w.ended ≡ v.ended → w.claimed ≡ v.claimed → w.bad ≡ v.bad → Fits n (get_or s.words 1 0) w
      → Kept n workers (stepped s i (get_or s.words i 0) id cs w keeps)
  unmoved n workers i id s r v w cs at parts ended claimed bad mine =
      let least : ℕ = get_or s.words 1 0 in
      subst (λ (ws : List ℕ). Kept n workers record { words = ws; homes = s.homes; views = set s.views id w }) (sym (set-get_or s.words i 0)) record {
        given = r.given;
        within = r.within;
        over = let t = total_set (λ v. v.ended) s.views id v w at in let o = r.over in omega arith;
        full = λ some_ended. r.full (let t = total_set (λ v. v.ended) s.views id v w at in omega arith);
        once = λ h. let t = total_set (λ v. weigh h v.claimed) s.views id v w at in let o = r.once h in let same = ap (weigh h) claimed in omega arith;
        parts = let t = total_set (λ v. v.parts) s.views id v w at in let o = r.parts in omega arith;
        wide = r.wide;
        fits = fits_set n least least s.views id w r.fits (λ u f. f) mine;
        least = reported_set least s.views id v w at (λ c. subst (λ xs. Contains xs least) (sym bad) c) r.least;
      }

  -- the least word is nothing, or a number of 32 bits
  word_small : (n workers : ℕ) (s : State S DeskView) (r : Kept n workers s) → (get_or s.words 1 0 ≡ nothing) ⊎ (get_or s.words 1 0 < 2 ^ 32)
  word_small n workers s r = small r.least
    where
      small : IsReported (get_or s.words 1 0) s.views → (get_or s.words 1 0 ≡ nothing) ⊎ (get_or s.words 1 0 < 2 ^ 32)
      small (inl e) = inl e
      small (inr t) = inr (All-contains (λ b. (get_or s.words 1 0 ≤ b) × (b < 2 ^ 32)) t.1.bad (get_or s.words 1 0) (r.fits t.0 t.1 t.2).reported t.3).1

  pub look_at : (n workers slots id : ℕ) (me : Me S DeskView) → 0 < me.0.parts
      → Allows (Kept n workers) slots id me 1 (λ x. x) (Looks (step slots 1 0 0 none) me)
  look_at n workers slots id me there s r _ at _ =
      let v : DeskView = me.0 in
      let least : ℕ = get_or s.words 1 0 in
      let mine = r.fits id v at in
      let w = with_found v least in (
        w,
        keeps,
        tt,
        unmoved n workers 1 id s r v w me.1 at refl refl refl refl
            record { idle = λ none. absurd (omega arith); knows = mine.knows; ends = mine.ends; reported = mine.reported; looked = All-push (λ x. least ≤ x) v.found least mine.looked (le_refl least) },
        (refl, refl, word_small n workers s r),
      )

  pub report_at : (n workers slots id x : ℕ) (me : Me S DeskView) → 0 < me.0.parts → x < 2 ^ 32
      → Allows (Kept n workers) slots id me 1 (λ y. min y x) (Reports (step slots 1 x 0 none) me)
  report_at n workers slots id x me some_parts small s r _ at _ =
      let v : DeskView = me.0 in
      let least : ℕ = get_or s.words 1 0 in
      let y : ℕ = min least x in
      let mine = r.fits id v at in
      let w = with_bad v x in
      let wide = r.wide in
      let less : y ≤ least = ⊎_elim (λ (t : (y ≡ least) × (least ≤ x)). let e = t.0 in omega arith) (λ (t : (y ≡ x) × (x ≤ least)). let e = t.0 in let l = t.1 in omega arith) (min_cases least x) in
      let less_x : y ≤ x = ⊎_elim (λ (t : (y ≡ least) × (least ≤ x)). let e = t.0 in let l = t.1 in omega arith) (λ (t : (y ≡ x) × (x ≤ least)). let e = t.0 in omega arith) (min_cases least x) in
      let here : get_or (set s.words 1 y) 1 0 ≡ y = get_or-set_same s.words 1 y 0 (omega arith) in
      let there : get_or (set s.words 1 y) 0 0 ≡ get_or s.words 0 0 = get_or-set_other s.words 1 0 y 0 (λ e. omega arith) in
      let weaker = fits_less n least y less v mine in (
        w,
        keeps,
        tt,
        record {
          given = r.given;
          within = r.within;
          over = let t = total_set (λ v. v.ended) s.views id v w at in let o = r.over in omega arith;
          full = λ some_ended. r.full (let t = total_set (λ v. v.ended) s.views id v w at in omega arith);
          once = λ h. let t = total_set (λ v. weigh h v.claimed) s.views id v w at in let o = r.once h in omega arith;
          parts = let t = total_set (λ v. v.parts) s.views id v w at in let o = r.parts in omega arith;
          wide = length-set s.words 1 y ∙ wide;
          fits = subst (λ l. (k : ℕ) (u : DeskView) → get_elem? (set s.views id w) k ≡ some u → Fits n l u) (sym here)
              (fits_set n least y s.views id w r.fits (fits_less n least y less)
              record { idle = λ none. absurd (omega arith); knows = mine.knows; ends = mine.ends; reported = All-push (λ b. (y ≤ b) × (b < 2 ^ 32)) v.bad x weaker.reported (less_x, small); looked = weaker.looked });
          least = subst (λ l. IsReported l (set s.views id w)) (sym here) (⊎_elim
              (λ (t : (y ≡ least) × (least ≤ x)). subst (λ l. IsReported l (set s.views id w)) (sym t.0) (reported_set least s.views id v w at (λ c. Contains-append_left v.bad (x ∷ []) least c) r.least))
              (λ (t : (y ≡ x) × (x ≤ least)). subst (λ l. IsReported l (set s.views id w)) (sym t.0) (inr (id, w, set_here s.views id w (below s.views id v at), Contains-push v.bad x)))
              (min_cases least x));
        },
        (refl, refl),
      )

  -- the first seat's view in two, before any step
  pub cuts_at : (n workers id parts : ℕ) → 0 < parts → Splits (Kept {S = S} n workers) id (newcomer parts n) (without_part (newcomer parts n)) (one_part (newcomer parts n))
  cuts_at n workers id parts some_parts s r at =
      let v = newcomer parts n in
      let left = without_part v in
      let right = one_part v in
      let least : ℕ = get_or s.words 1 0 in
      let mine = r.fits id v at in
      let views : List DeskView = set s.views id left in
      let one = λ (f : DeskView → ℕ). total-append f views (right ∷ []) in
      record {
        given = r.given;
        within = r.within;
        over = let t = total_set (λ v. v.ended) s.views id v left at in let u = one (λ v. v.ended) in let o = r.over in omega arith;
        full = λ some_ended. r.full (let t = total_set (λ v. v.ended) s.views id v left at in let u = one (λ v. v.ended) in omega arith);
        once = λ h. let t = total_set (λ v. weigh h v.claimed) s.views id v left at in let u = one (λ v. weigh h v.claimed) in let o = r.once h in omega arith;
        parts = let t = total_set (λ v. v.parts) s.views id v left at in let u = one (λ v. v.parts) in let o = r.parts in omega arith;
        wide = r.wide;
        fits = λ k u e. ⊎_elim
            (fits_set n least least s.views id left r.fits (λ u f. f) record { idle = λ _. (refl, refl, refl); knows = λ _. refl; ends = omega arith; reported = mine.reported; looked = mine.looked } k u)
            (λ (t : right ≡ u). subst (Fits n least) t record { idle = λ _. (refl, refl, refl); knows = λ _. refl; ends = omega arith; reported = mine.reported; looked = mine.looked })
            (at_snoc views right u k e);
        least = longer least views (right ∷ []) (reported_set least s.views id v left at (λ c. c) r.least);
      }

  -- a worker's seat is taken in
  pub joins_at : (n workers id : ℕ) (v : DeskView) (other : ℕ) (u : DeskView) → 0 < u.parts → Joins (Kept {S = S} n workers) id v other u (together v u) (newcomer 0 0)
  joins_at n workers id v other u some_parts s r at apart there =
      let both = together v u in
      let least : ℕ = get_or s.words 1 0 in
      let views : List DeskView = set s.views id both in
      let theirs_at : get_elem? s.views other ≡ some u = sym (set_else s.views id other both apart) ∙ there in
      let mine = r.fits id v at in
      let theirs = r.fits other u theirs_at in
      let first = λ (f : DeskView → ℕ). total_set f s.views id v both at in
      let second = λ (f : DeskView → ℕ). total_set f views other u (newcomer 0 0) there in
      record {
        given = r.given;
        within = r.within;
        over = let t = first (λ v. v.ended) in let t' = second (λ v. v.ended) in let o = r.over in omega arith;
        full = λ some_ended. r.full (let t = first (λ v. v.ended) in let t' = second (λ v. v.ended) in omega arith);
        once = λ h. let t = first (λ v. weigh h v.claimed) in let t' = second (λ v. weigh h v.claimed) in let o = r.once h in let a = weigh-append h v.claimed u.claimed in omega arith;
        parts = let t = first (λ v. v.parts) in let t' = second (λ v. v.parts) in let o = r.parts in omega arith;
        wide = r.wide;
        fits = fits_set n least least views other (newcomer 0 0)
            (fits_set n least least s.views id both r.fits (λ u f. f) record {
              idle = λ none. absurd (omega arith);
              knows = λ _. theirs.knows some_parts;
              ends = let a = mine.ends in let b = theirs.ends in omega arith;
              reported = All-append (λ b. (least ≤ b) × (b < 2 ^ 32)) v.bad u.bad mine.reported theirs.reported;
              looked = All-append (λ x. least ≤ x) v.found u.found mine.looked theirs.looked;
            })
            (λ u f. f)
            record { idle = λ _. (refl, refl, refl); knows = λ p. absurd (omega arith); ends = omega arith; reported = λ k d l. absurd (omega arith); looked = λ k d l. absurd (omega arith) };
        least = reported least r.least;
      }
    where
      reported : (least : ℕ) → IsReported least s.views → IsReported least (set (set s.views id (together v u)) other (newcomer 0 0))
      reported least (inl e) = inl e
      reported least (inr t) =
          let both = together v u in
          let views : List DeskView = set s.views id both in
          let theirs_at : get_elem? s.views other ≡ some u = sym (set_else s.views id other both apart) ∙ there in
          let seat : get_elem? (set views other (newcomer 0 0)) id ≡ some both = set_else views other id (newcomer 0 0) (λ e. apart (sym e)) ∙ set_here s.views id both (below s.views id v at) in
          dite (ℕ_discrete t.0 id)
          (λ same. inr (id, both, seat, Contains-append_left v.bad u.bad least (subst (λ (x : DeskView). Contains x.bad least) (some-injective t.1 v (sym t.2 ∙ ap (λ k. get_elem? s.views k) same ∙ at)) t.3)))
          (λ ne. dite (ℕ_discrete t.0 other)
          (λ same. inr (id, both, seat, Contains-append_right v.bad u.bad least (subst (λ (x : DeskView). Contains x.bad least) (some-injective t.1 u (sym t.2 ∙ ap (λ k. get_elem? s.views k) same ∙ theirs_at)) t.3)))
          (λ ne'. inr (t.0, t.1, set_else views other t.0 (newcomer 0 0) ne' ∙ (set_else s.views id t.0 both ne ∙ t.2), t.3)))

  -- before any step
  pub begins : (n workers : ℕ) (homes : List (Option S)) → Kept n workers record { words = 0 ∷ nothing ∷ []; homes = homes; views = newcomer workers n ∷ [] }
  begins n workers homes = record {
    given = 0;
    within = omega arith;
    over = refl;
    full = λ p. absurd (omega arith);
    once = λ h. refl;
    parts = omega arith;
    wide = refl;
    fits = one;
    least = inl refl;
  }
    where
      one : (k : ℕ) (v : DeskView) → get_elem? (newcomer workers n ∷ []) k ≡ some v → Fits n nothing v
      one zero v e = subst (Fits n nothing) (some-injective _ _ e) record { idle = λ _. (refl, refl, refl); knows = λ _. refl; ends = omega arith; reported = λ k d l. absurd (omega arith); looked = λ k d l. absurd (omega arith) }
      one (suc k) v e = absurd (some-ne-none v (sym e))

  -- what a view of all parts knows
  pub knows_all : (n workers id : ℕ) (v : DeskView) (s : State S DeskView) (r : Kept n workers s) → get_elem? s.views id ≡ some v → v.parts ≡ workers → Closes n v (get_or s.words 0 0) (get_or s.words 1 0)
  knows_all n workers id v s r at all =
      let empty = newcomer 0 0 in
      let views : List DeskView = set s.views id empty in
      let none_left : total (λ v. v.parts) views ≡ 0 = let t = total_set (λ v. v.parts) s.views id v empty at in let p = r.parts in omega arith in
      let mine = r.fits id v at in
      let out = fits_set n (get_or s.words 1 0) (get_or s.words 1 0) s.views id empty r.fits (λ u f. f) record { idle = λ _. (refl, refl, refl); knows = λ p. absurd (omega arith); ends = omega arith; reported = λ k d l. absurd (omega arith); looked = λ k d l. absurd (omega arith) } in
      let ended : total (λ v. v.ended) s.views ≡ v.ended =
      let i = total_idle (λ v. v.ended) (λ v. v.parts) views (λ k u e none. let m = (out k u e).ends in omega arith) none_left in
      let t = total_set (λ v. v.ended) s.views id v empty at in omega arith in
      record {
        given = r.given;
        within = r.within;
        over = r.over ∙ ap (λ (k : ℕ). r.given + k) ended;
        full = λ some_ended. r.full (omega arith);
        once = λ h.
            let i = total_idle (λ v. weigh h v.claimed) (λ v. v.parts) views (λ k u e none. ap (weigh h) ((out k u e).idle none).0) none_left in
            let t = total_set (λ v. weigh h v.claimed) s.views id v empty at in let o = r.once h in omega arith;
        reported = mine.reported;
        looked = mine.looked;
        least = reported r.least;
      }
    where
      reported : IsReported (get_or s.words 1 0) s.views → (get_or s.words 1 0 ≡ nothing) ⊎ Contains v.bad (get_or s.words 1 0)
      reported (inl e) = inl e
      reported (inr t) = dite (ℕ_discrete t.0 id)
          (λ same. inr (subst (λ (x : DeskView). Contains x.bad (get_or s.words 1 0)) (some-injective t.1 v (sym t.2 ∙ ap (λ k. get_elem? s.views k) same ∙ at)) t.3))
          (λ other.
          let views : List DeskView = set s.views id (newcomer 0 0) in
          let there = set_else s.views id t.0 (newcomer 0 0) other ∙ t.2 in
          let none_left : total (λ v. v.parts) views ≡ 0 = let x = total_set (λ v. v.parts) s.views id v (newcomer 0 0) at in let p = r.parts in omega arith in
          let some_of = total_at (λ v. v.parts) views t.0 t.1 there in
          let empty = ((r.fits t.0 t.1 t.2).idle (omega arith)).1 in
          let c = subst (λ xs. Contains xs (get_or s.words 1 0)) empty t.3 in
          let l = c.1 in absurd (omega arith))
