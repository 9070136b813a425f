-- A worker's tally, one claim further.
use Rattle.std.proofs.Common.{◌≡◌, ◌⊎◌, ℕ, zero, suc, ◌+◌, ◌<◌, ◌≤◌, Bool, true, false, List, [], ◌∷◌, ◌++◌, All, Some, None, refl, sym, ap, ◌∙◌, subst, inl, inr, ⊎_elim, arith, eqb, leb, le-leb, leb-true, eq-eqb, ne_eqb, append-nil}
use Rattle.std.specs.Prelude.{Option, MatchBool, ◌==◌, ◌^◌, if◌then◌else◌}
use mathlib.Core.Logic.{dite}
use native.Mathlib.Decide.{ℕ_discrete, dec_le}
use Rattle.std.specs.List.{Contains}
use Rattle.std.proofs.lemmas.List.Elements.{All-push, Contains-push, Contains-push_cases, Contains-append_left, All-contains, All-append, Contains-append_right, Contains-append_cases}
use Rattle.std.proofs.lemmas.Grind.{flat_map-append}
use Rattle.workers.specs.Counts.{weigh, weigh_below}
use Rattle.workers.specs.Desks.{Sitting, IsLeastOf, ended_count, all_bad, all_claimed, all_found, moment_of, last_moment, nothing, word_of}
use Rattle.workers.specs.Sweeps.{IsTally, IsBest, IsSwept, better, best_of}
use Rattle.workers.proofs.Closing.{ended-append}
use Rattle.workers.proofs.Seating.{last_push}

leb_off : (a b : ℕ) → b < a → (t : Bool) → leb a b ≡ t → leb a b ≡ false
leb_off a b l true is = let h = leb-true a b is in absurd (omega arith)
leb_off a b l false is = is

module _ {B : Type 0} (passes : ℕ → Type 0) (fails : ℕ → B → Type 0) (moments : ℕ) where
  pub tally_new : (best : Option (ℕ × B)) → best ≡ None → IsTally passes fails moments [] [] [] best
  tally_new best none = record {
    judged = λ m c. let l = c.1 in absurd (omega arith);
    below = λ k d l. absurd (omega arith);
    least = subst (IsBest passes fails moments []) (sym none) refl;
  }

  -- one value found more
  pub tally_found : (c b f : List ℕ) (word : ℕ) (best : Option (ℕ × B)) → IsTally passes fails moments c b f best → IsTally passes fails moments c b (f ++ word ∷ []) best
  tally_found c b f word best t = record {
    judged = λ m is. ⊎_elim inl (λ r. inr (⊎_elim inl (λ s. inr (s.0, Contains-append_left f (word ∷ []) s.0 s.1, s.2)) r)) (t.judged m is);
    below = t.below;
    least = t.least;
  }

  pub tally_at : (c b f c' b' f' : List ℕ) (best best' : Option (ℕ × B)) → c' ≡ c → b' ≡ b → f' ≡ f → best' ≡ best → IsTally passes fails moments c b f best → IsTally passes fails moments c' b' f' best'
  tally_at c b f c' b' f' best best' ec eb ef e t =
      subst (λ (x : List ℕ × List ℕ × List ℕ × Option (ℕ × B)). IsTally passes fails moments x.0 x.1 x.2 x.3) (λ k. (sym ec k, sym eb k, sym ef k, sym e k)) t

  pub tally_none : (ended : Bool) (s s' : Sitting) (best : Option (ℕ × B)) → MatchBool ended (s' ≡ s) ((word : ℕ) × (s'.found ≡ s.found ++ word ∷ [])) → s'.claimed ≡ s.claimed → s'.bad ≡ s.bad
      → IsTally passes fails moments s.claimed s.bad s.found best → IsTally passes fails moments s'.claimed s'.bad s'.found best
  tally_none true s s' best same ec eb t = subst (λ (x : Sitting). IsTally passes fails moments x.claimed x.bad x.found best) (sym same) t
  tally_none false s s' best more ec eb t = tally_at s.claimed s.bad (s.found ++ more.0 ∷ []) s'.claimed s'.bad s'.found best best ec eb more.1 refl (tally_found s.claimed s.bad s.found more.0 best t)

  -- one moment more, in one of three ways
  judged_more : (c b f : List ℕ) (moment : ℕ) → ((m : ℕ) → Contains c m → passes m ⊎ (Contains b m ⊎ ((word : ℕ) × Contains f word × (word < m))))
      → (passes moment ⊎ (Contains b moment ⊎ ((word : ℕ) × Contains f word × (word < moment))))
      → (m : ℕ) → Contains (c ++ moment ∷ []) m → passes m ⊎ (Contains b m ⊎ ((word : ℕ) × Contains f word × (word < m)))
  judged_more c b f moment each here m is = ⊎_elim (each m) (λ (e : moment ≡ m). subst (λ k. passes k ⊎ (Contains b k ⊎ ((word : ℕ) × Contains f word × (word < k)))) e here) (Contains-push_cases c moment m is)

  pub tally_skipped : (c b f : List ℕ) (moment x : ℕ) (best : Option (ℕ × B)) → IsTally passes fails moments c b f best → Contains f x → x < moment → moment < moments
      → IsTally passes fails moments (c ++ moment ∷ []) b f best
  tally_skipped c b f moment x best t seen less inside = record {
    judged = judged_more c b f moment t.judged (inr (inr (x, seen, less)));
    below = All-push (λ m. m < moments) c moment t.below inside;
    least = t.least;
  }

  pub tally_passed : (c b f : List ℕ) (moment : ℕ) (best : Option (ℕ × B)) → IsTally passes fails moments c b f best → passes moment → moment < moments
      → IsTally passes fails moments (c ++ moment ∷ []) b f best
  tally_passed c b f moment best t pass inside = record {
    judged = judged_more c b f moment t.judged (inl pass);
    below = All-push (λ m. m < moments) c moment t.below inside;
    least = t.least;
  }

  best_more : (b : List ℕ) (moment : ℕ) (bad : B) (best : Option (ℕ × B)) → IsBest passes fails moments b best → fails moment bad → moment < moments → IsBest passes fails moments (b ++ moment ∷ []) (better best moment bad)
  best_more b moment bad None none fail inside = subst (λ l. IsBest passes fails moments (l ++ moment ∷ []) (Some (moment, bad))) (sym none) ((0, omega arith, refl), All-push (λ m. moment ≤ m) [] moment (λ k d l. absurd (omega arith)) (omega arith), inside, fail)
  best_more b moment bad (Some found) is fail inside = dite (dec_le found.0 moment)
      (λ l. subst (IsBest passes fails moments (b ++ moment ∷ [])) (sym (ap (λ (t : Bool). if t then Some found else Some (moment, bad)) (le-leb found.0 moment l)))
      (Contains-append_left b (moment ∷ []) found.0 is.0, All-push (λ m. found.0 ≤ m) b moment is.1 l, is.2, is.3))
      (λ n. subst (IsBest passes fails moments (b ++ moment ∷ [])) (sym (ap (λ (t : Bool). if t then Some found else Some (moment, bad)) (leb_off found.0 moment (omega arith) (leb found.0 moment) refl)))
      (Contains-push b moment, All-push (λ m. moment ≤ m) b moment (λ k d l. let h = is.1 k d l in omega arith) (omega arith), inside, fail))

  pub tally_bad : (c b f : List ℕ) (moment : ℕ) (bad : B) (best : Option (ℕ × B)) → IsTally passes fails moments c b f best → fails moment bad → moment < moments
      → IsTally passes fails moments (c ++ moment ∷ []) (b ++ moment ∷ []) f (better best moment bad)
  tally_bad c b f moment bad best t fail inside = record {
    judged = judged_more c (b ++ moment ∷ []) f moment (λ m is. ⊎_elim inl (λ r. inr (⊎_elim (λ q. inl (Contains-append_left b (moment ∷ []) m q)) inr r)) (t.judged m is)) (inr (inl (Contains-push b moment)));
    below = All-push (λ m. m < moments) c moment t.below inside;
    least = best_more b moment bad best t.least fail inside;
  }

-- what was seen last is among what was found
pub seen_found : (f : List ℕ) (word x : ℕ) → last_moment (f ++ word ∷ []) ≡ Some x → Contains (f ++ word ∷ []) x
seen_found f word x is = subst (Contains (f ++ word ∷ [])) (named word x (sym (last_push f word) ∙ is)) (Contains-push f word)
  where
    named : (word x : ℕ) → moment_of word ≡ Some x → word ≡ x
    named word x e = cases (eqb word nothing) e
      where
        cases : (b : Bool) → (if b then None else Some word) ≡ Some x → word ≡ x
        cases true e = absurd (cc)
        cases false e = cc

-- a list whose weights are those of all moments below n has each of them
abbrev one : Bool → ℕ
one b = if b then 1 else 0

times_some : (m : ℕ) (c : List ℕ) → 0 < weigh (λ y. one (y == m)) c → Contains c m
times_some m [] l = absurd (omega arith)
times_some m (x ∷ xs) l = dite (ℕ_discrete x m)
    (λ e. (0, omega arith, e))
    (λ ne. let z : one (x == m) ≡ 0 = ap one (ne_eqb x m ne) in let i = times_some m xs (omega (arith, z)) in (suc i.0, (let a = i.1 in omega arith), i.2))

below_some : (m n : ℕ) → m < n → 0 < weigh_below (λ y. one (y == m)) n
below_some m zero l = absurd (omega arith)
below_some m (suc n) l = dite (ℕ_discrete n m)
    (λ e. let z : one (n == m) ≡ 1 = ap one (eq-eqb n m e) in omega (arith, z))
    (λ ne. let i = below_some m n (omega arith) in omega arith)

claimed_all : (n : ℕ) (c : List ℕ) → ((h : ℕ → ℕ) → weigh h c ≡ weigh_below h n) → (m : ℕ) → m < n → Contains c m
claimed_all n c once m l = times_some m c (let o = once (λ y. one (y == m)) in let p = below_some m n l in omega arith)

module _ {B : Type 0} (passes : ℕ → Type 0) (fails : ℕ → B → Type 0) (moments : ℕ) where
  best_join : (b b' : List ℕ) (best best' : Option (ℕ × B)) → IsBest passes fails moments b best → IsBest passes fails moments b' best' → IsBest passes fails moments (b ++ b') (best_of best best')
  best_join b b' best None t none = subst (λ l. IsBest passes fails moments (b ++ l) best) (sym none) (subst (λ l. IsBest passes fails moments l best) (sym (append-nil b)) t)
  best_join b b' None (Some other) none u = subst (λ l. IsBest passes fails moments (l ++ b') (Some other)) (sym none) u
  best_join b b' (Some found) (Some other) t u = dite (dec_le found.0 other.0)
      (λ l. subst (IsBest passes fails moments (b ++ b')) (sym (ap (λ (x : Bool). if x then Some found else Some other) (le-leb found.0 other.0 l)))
      (Contains-append_left b b' found.0 t.0, All-append (λ m. found.0 ≤ m) b b' t.1 (λ k d i. let h = u.1 k d i in omega arith), t.2, t.3))
      (λ n. subst (IsBest passes fails moments (b ++ b')) (sym (ap (λ (x : Bool). if x then Some found else Some other) (leb_off found.0 other.0 (omega arith) (leb found.0 other.0) refl)))
      (Contains-append_right b b' other.0 u.0, All-append (λ m. other.0 ≤ m) b b' (λ k d i. let h = t.1 k d i in omega arith) u.1, u.2, u.3))

  -- the tallies of two workers in one
  pub tally_join : (c b f c' b' f' : List ℕ) (best best' : Option (ℕ × B)) → IsTally passes fails moments c b f best → IsTally passes fails moments c' b' f' best'
      → IsTally passes fails moments (c ++ c') (b ++ b') (f ++ f') (best_of best best')
  tally_join c b f c' b' f' best best' t u = record {
    judged = λ m is. ⊎_elim
        (λ l. ⊎_elim inl (λ r. inr (⊎_elim (λ q. inl (Contains-append_left b b' m q)) (λ w. inr (w.0, Contains-append_left f f' w.0 w.1, w.2)) r)) (t.judged m l))
        (λ l. ⊎_elim inl (λ r. inr (⊎_elim (λ q. inl (Contains-append_right b b' m q)) (λ w. inr (w.0, Contains-append_right f f' w.0 w.1, w.2)) r)) (u.judged m l))
        (Contains-append_cases c c' m is);
    below = All-append (λ m. m < moments) c c' t.below u.below;
    least = best_join b b' best best' t.least u.least;
  }

  -- the tally of all workers, once all moments were given out
  pub swept_of : (c b f : List ℕ) (best : Option (ℕ × B)) (least : Option ℕ) → moments < 2 ^ 32 → IsTally passes fails moments c b f best → ((h : ℕ → ℕ) → weigh h c ≡ weigh_below h moments)
      → IsLeastOf b least → All (λ word. word_of least ≤ word) f → IsSwept passes fails moments best
  swept_of c b f None None few t once least found =
      λ m l. ⊎_elim (λ p. p) (λ r. ⊎_elim (λ (q : Contains b m). let z = (subst (λ x. Contains x m) least q).1 in absurd (omega arith))
      (λ w. let h = All-contains (λ x. nothing ≤ x) f w.0 found w.1 in let l' = w.2 in absurd (omega arith)) r) (t.judged m (claimed_all moments c once m l))
  swept_of c b f None (Some x) few t once least found = let z = (subst (λ l. Contains l x) t.least least.0).1 in absurd (omega arith)
  swept_of c b f (Some best) None few t once least found = let z = (subst (λ l. Contains l best.0) least t.least.0).1 in absurd (omega arith)
  swept_of c b f (Some best) (Some x) few t once least found =
      let is = t.least in
      let less : best.0 ≤ x = All-contains (λ m. best.0 ≤ m) b x is.1 least.0 in (
        is.2,
        is.3,
        λ m l. ⊎_elim (λ p. p) (λ r. ⊎_elim
            (λ (q : Contains b m). let z : best.0 ≤ m = All-contains (λ k. best.0 ≤ k) b m is.1 q in absurd (omega arith))
            (λ w. let h : x ≤ w.0 = All-contains (λ k. x ≤ k) f w.0 found w.1 in let l' = w.2 in absurd (omega arith)) r)
            (t.judged m (claimed_all moments c once m (let i = is.2 in omega arith))),
      )

  -- one worker's tally more
  pub gathered_more : (seats : List Sitting) (s : Sitting) (best best' new : Option (ℕ × B)) → IsTally passes fails moments (all_claimed seats) (all_bad seats) (all_found seats) best
      → IsTally passes fails moments s.claimed s.bad s.found best' → new ≡ best_of best best'
      → IsTally passes fails moments (all_claimed (seats ++ s ∷ [])) (all_bad (seats ++ s ∷ [])) (all_found (seats ++ s ∷ [])) new
  gathered_more seats s best best' new t u is =
      tally_at passes fails moments (all_claimed seats ++ s.claimed) (all_bad seats ++ s.bad) (all_found seats ++ s.found) _ _ _ (best_of best best') new
      (flat_map-append (λ (x : Sitting). x.claimed) seats (s ∷ []) ∙ ap (λ l. all_claimed seats ++ l) (append-nil s.claimed))
      (flat_map-append (λ (x : Sitting). x.bad) seats (s ∷ []) ∙ ap (λ l. all_bad seats ++ l) (append-nil s.bad))
      (flat_map-append (λ (x : Sitting). x.found) seats (s ∷ []) ∙ ap (λ l. all_found seats ++ l) (append-nil s.found))
      is
      (tally_join (all_claimed seats) (all_bad seats) (all_found seats) s.claimed s.bad s.found best best' t u)

pub ended_one : (seats : List Sitting) (s : Sitting) → s.ended ≡ true → ended_count (seats ++ s ∷ []) ≡ ended_count seats + 1
ended_one seats s is = ended-append seats (s ∷ []) ∙ ap (λ (b : Bool). ended_count seats + ((if b then 1 else 0) + 0)) is
