-- Whether a clean or a fence is needless, and why, by what stands before it and what follows it.
use Rattle.std.proofs.Common.{◌≡◌, ◌≢◌, ℕ, suc, ◌<◌, ◌≤◌, inl, inr, List, [], ◌∷◌, ◌++◌, Option, Some, None, length, take, max, arith, refl, ap, ◌∙◌, sym, subst}
use Rattle.std.specs.Prelude.{Contains}
use Rattle.std.proofs.lemmas.List.Elements.{Contains-append_right}
use Rattle.store_trace.proofs.Bounds.{cleaned_le_stores}
use Rattle.store_trace.specs.Floor.{cleaned, floor}
use Rattle.store_trace.specs.Stores.{stores}
use Rattle.store_trace.specs.declared.crash_model.step.PersistenceStep.{PersistenceStep}
use Rattle.store_trace.specs.declared.crash_model.step.PersistenceStep.TheVariants as step
use Rattle.store_trace.specs.History.{history, steps_of}
use Rattle.store_trace.specs.declared.event.Event.{Event}
use Rattle.store_trace.specs.declared.event.Event.TheVariants.{Store, Clean, Fence, Begin, End}
use Rattle.durability.proofs.Alike.{Alike, alike_again, alike_back, alike_clean, alike_from, but_back, but_clean, cleaned_stays, eq_or_not, floor_grows, floors_along, floors_open, own_clean}
use Rattle.durability.proofs.Back.{back, back_back, history_back, history_more}
use Rattle.durability.proofs.Lacks.{contains_head, no_head, no_tail}
use Rattle.durability.specs.Needless.{IsCleanOrFence, IsNeedless}
use Rattle.durability.specs.Reasons.{Holds, IsAlreadyThere, IsCleanedAgain, IsNextFence, IsReason, place_of}
use Rattle.durability.specs.declared.redundant.reason.Reason.{Reason}
use Rattle.durability.specs.declared.redundant.reason.Reason.TheVariants.{NotFenced, NothingToComplete, CleanedAgain, AlreadyThere}

-- leaving the event out after these steps changes no floor
pub record IsLeftOut (event : Event) (p : List PersistenceStep) (after : List Event) : Type 0 where
  pub same : (l m : ℕ) → floor l (back (take m after) (steps_of event ++ p)) ≡ floor l (back (take m after) p)

pub needless_from : (before : List Event) (event : Event) (after : List Event) → IsCleanOrFence event →
    IsLeftOut event (history before) after → IsNeedless before event after
needless_from before event after kind out = record {
  kind = kind;
  same = λ l m.
      ap (λ (p : List PersistenceStep). floor l p) (history_back before (event ∷ take m after))
      ∙ out.same l m
      ∙ sym (ap (λ (p : List PersistenceStep). floor l p) (history_back before (take m after)));
}

pub left_out_from : (before : List Event) (event : Event) (after : List Event) → IsNeedless before event after →
    IsLeftOut event (history before) after
left_out_from before event after needless = record {
  same = λ l m.
      sym (ap (λ (p : List PersistenceStep). floor l p) (history_back before (event ∷ take m after)))
      ∙ needless.same l m
      ∙ ap (λ (p : List PersistenceStep). floor l p) (history_back before (take m after));
}

-- the hart's next fence finds the line at the clean's number of stores, and no other clean of the line by the hart stands between
pub record IsThere (p : List PersistenceStep) (h l : ℕ) (after : List Event) : Type 0 where
  pub between : List Event
  pub later : List Event
  pub fence : IsNextFence h after between later
  pub none : Contains between (Clean h l) → ⊥
  pub there : stores l p ≤ floor l (back between p)

-- it finds the line below that
pub record IsNeeded (p : List PersistenceStep) (h l : ℕ) (after : List Event) : Type 0 where
  pub between : List Event
  pub later : List Event
  pub fence : IsNextFence h after between later
  pub none : Contains between (Clean h l) → ⊥
  pub low : floor l (back between p) < stores l p

abbrev pub AnswersClean : List PersistenceStep → ℕ → ℕ → List Event → Option Reason → Type 0
AnswersClean p h l after (Some NotFenced) = Contains after (Fence h) → ⊥
AnswersClean p h l after (Some NothingToComplete) = ⊥
AnswersClean p h l after (Some CleanedAgain) = IsCleanedAgain h l after
AnswersClean p h l after (Some AlreadyThere) = IsThere p h l after
AnswersClean p h l after None = IsNeeded p h l after

abbrev pub AnswersFence : List PersistenceStep → ℕ → Option Reason → Type 0
AnswersFence p h (Some NotFenced) = ⊥
AnswersFence p h (Some NothingToComplete) = (l : ℕ) → cleaned l h p ≤ floor l p
AnswersFence p h (Some CleanedAgain) = ⊥
AnswersFence p h (Some AlreadyThere) = ⊥
AnswersFence p h None = (l : ℕ) × (floor l p < cleaned l h p)

abbrev pub Answers : List PersistenceStep → Event → List Event → Option Reason → Type 0
Answers p (Store h l o w v) after reason = reason ≡ None
Answers p (Clean h l) after reason = AnswersClean p h l after reason
Answers p (Fence h) after reason = AnswersFence p h reason
Answers p (Begin h op) after reason = reason ≡ None
Answers p (End h op) after reason = reason ≡ None

-- a clean is left out where all is alike before its hart's next fence
out_clean : (p : List PersistenceStep) (h l : ℕ) (after between later : List Event) → IsNextFence h after between later →
    Alike l (back between (step.Clean h l ∷ p)) (back between p) → IsLeftOut (Clean h l) p after
out_clean p h l after between later fence a = record {
  same = λ m k. elim (eq_or_not l m) [
    | inl e ↦ rw (← e) (rw fence.place (floors_along h l between (Fence h ∷ later) k (step.Clean h l ∷ p) p fence.next (but_clean h l p) a))
    | inr ne ↦ (alike_back m (take k after) (step.Clean h l ∷ p) p (alike_clean h l m p ne)).level
  ];
}

out_open : (p : List PersistenceStep) (h l : ℕ) (after : List Event) → (Contains after (Fence h) → ⊥) → IsLeftOut (Clean h l) p after
out_open p h l after none = record {
  same = λ m k. elim (eq_or_not l m) [
    | inl e ↦ rw (← e) (floors_open h l after k (step.Clean h l ∷ p) p none (but_clean h l p))
    | inr ne ↦ (alike_back m (take k after) (step.Clean h l ∷ p) p (alike_clean h l m p ne)).level
  ];
}

out_again : (p : List PersistenceStep) (h l : ℕ) (after : List Event) → IsCleanedAgain h l after → IsLeftOut (Clean h l) p after
out_again p h l after c =
    out_clean p h l after c.between c.later c.fence
    (alike_again h l c.between (step.Clean h l ∷ p) p c.fence.next c.again (but_clean h l p))

both_there : (f g c d s : ℕ) → f ≡ g → c ≤ s → d ≤ s → s ≤ g → max f c ≡ max g d
both_there f g c d s e i j k = omega arith

out_there : (p : List PersistenceStep) (h l : ℕ) (after : List Event) → IsThere p h l after → IsLeftOut (Clean h l) p after
out_there p h l after t =
    let but = but_back h l t.between (step.Clean h l ∷ p) p t.fence.next (but_clean h l p) in
    let with_it : cleaned l h (back t.between (step.Clean h l ∷ p)) ≡ stores l p =
    cleaned_stays h l t.between (step.Clean h l ∷ p) t.none ∙ own_clean h l p in
    let without_it : cleaned l h (back t.between p) ≡ cleaned l h p = cleaned_stays h l t.between p t.none in
    let own : max (floor l (back t.between (step.Clean h l ∷ p))) (cleaned l h (back t.between (step.Clean h l ∷ p)))
    ≡ max (floor l (back t.between p)) (cleaned l h (back t.between p)) =
    both_there (floor l (back t.between (step.Clean h l ∷ p))) (floor l (back t.between p))
    (cleaned l h (back t.between (step.Clean h l ∷ p))) (cleaned l h (back t.between p)) (stores l p)
    but.level (omega (arith, with_it)) (omega (arith, without_it, cleaned_le_stores l h p)) t.there in
    out_clean p h l after t.between t.later t.fence
    (alike_from h l (back t.between (step.Clean h l ∷ p)) (back t.between p) but own)

fence_level : (f c : ℕ) → c ≤ f → max f c ≡ f
fence_level f c h = omega arith

fence_reach : (f c d : ℕ) → c ≤ f → max (max f c) d ≡ max f d
fence_reach f c d h = omega arith

out_fence : (p : List PersistenceStep) (h : ℕ) (after : List Event) → ((l : ℕ) → cleaned l h p ≤ floor l p) → IsLeftOut (Fence h) p after
out_fence p h after none = record {
  same = λ m k.
      let a : Alike m (step.Fence h ∷ p) p = record {
        count = refl;
        level = fence_level (floor m p) (cleaned m h p) (none m);
        reach = λ g. fence_reach (floor m p) (cleaned m h p) (cleaned m g p) (none m);
      } in
      (alike_back m (take k after) (step.Fence h ∷ p) p a).level;
}

-- a reason makes an event needless, whatever stands before it
pub out_by_reason : (p : List PersistenceStep) (event : Event) (after : List Event) (reason : Reason) →
    Answers p event after (Some reason) → IsCleanOrFence event × IsLeftOut event p after
out_by_reason p (Store h l o w v) after reason e = absurd (cc)
out_by_reason p (Clean h l) after NotFenced a = (tt, out_open p h l after a)
out_by_reason p (Clean h l) after NothingToComplete a = absurd a
out_by_reason p (Clean h l) after CleanedAgain a = (tt, out_again p h l after a)
out_by_reason p (Clean h l) after AlreadyThere a = (tt, out_there p h l after a)
out_by_reason p (Fence h) after NotFenced a = absurd a
out_by_reason p (Fence h) after NothingToComplete a = (tt, out_fence p h after a)
out_by_reason p (Fence h) after CleanedAgain a = absurd a
out_by_reason p (Fence h) after AlreadyThere a = absurd a
out_by_reason p (Begin h op) after reason e = absurd (cc)
out_by_reason p (End h op) after reason e = absurd (cc)

-- the hart's next fence after an event is one alone
pub cons_head : {X : Type 0} (x y : X) (xs ys : List X) → x ∷ xs ≡ y ∷ ys → x ≡ y
cons_head x y xs ys e = cc

pub cons_tail : {X : Type 0} (x y : X) (xs ys : List X) → x ∷ xs ≡ y ∷ ys → xs ≡ ys
cons_tail x y xs ys e = cc

same_between : (h : ℕ) (one other later rest : List Event) → (Contains one (Fence h) → ⊥) → (Contains other (Fence h) → ⊥) →
    one ++ (Fence h ∷ later) ≡ other ++ (Fence h ∷ rest) → one ≡ other
same_between h [] [] later rest f g e = refl
same_between h [] (y ∷ ys) later rest f g e =
    absurd (no_head y ys (Fence h) g (sym (cons_head (Fence h) y later (ys ++ (Fence h ∷ rest)) e)))
same_between h (x ∷ xs) [] later rest f g e =
    absurd (no_head x xs (Fence h) f (cons_head x (Fence h) (xs ++ (Fence h ∷ later)) rest e))
same_between h (x ∷ xs) (y ∷ ys) later rest f g e =
    let head : x ≡ y = cons_head x y (xs ++ (Fence h ∷ later)) (ys ++ (Fence h ∷ rest)) e in
    let tail : xs ≡ ys =
    same_between h xs ys later rest (no_tail x xs (Fence h) f) (no_tail y ys (Fence h) g)
    (cons_tail x y (xs ++ (Fence h ∷ later)) (ys ++ (Fence h ∷ rest)) e) in
    rw (head, tail) refl

pub next_fence_once : (h : ℕ) (after one other later rest : List Event) → IsNextFence h after one later →
    IsNextFence h after other rest → one ≡ other
next_fence_once h after one other later rest f g = same_between h one other later rest f.next g.next (sym f.place ∙ g.place)

has_fence : (h : ℕ) (after between later : List Event) → IsNextFence h after between later → Contains after (Fence h)
has_fence h after between later f =
    rw f.place (Contains-append_right between (Fence h ∷ later) (Fence h) (contains_head (Fence h) later))

first_reason : (before : List Event) (event : Event) (after : List Event) (other : Reason) → place_of other < 0 → Holds before event after other → ⊥
first_reason before event after other less holds = omega arith

no_fence_first : (before : List Event) (h : ℕ) (after : List Event) (other : Reason) → place_of other < 1 → Holds before (Fence h) after other → ⊥
no_fence_first before h after NotFenced less holds = holds
no_fence_first before h after NothingToComplete less holds = omega arith
no_fence_first before h after CleanedAgain less holds = omega arith
no_fence_first before h after AlreadyThere less holds = omega arith

no_again_first : (before : List Event) (h l : ℕ) (after : List Event) (other : Reason) → Contains after (Fence h) →
    place_of other < 2 → Holds before (Clean h l) after other → ⊥
no_again_first before h l after NotFenced fence less holds = holds fence
no_again_first before h l after NothingToComplete fence less holds = holds
no_again_first before h l after CleanedAgain fence less holds = omega arith
no_again_first before h l after AlreadyThere fence less holds = omega arith

no_there_first : (before : List Event) (h l : ℕ) (after : List Event) (other : Reason) → IsThere (history before) h l after →
    place_of other < 3 → Holds before (Clean h l) after other → ⊥
no_there_first before h l after NotFenced t less holds = holds (has_fence h after t.between t.later t.fence)
no_there_first before h l after NothingToComplete t less holds = holds
no_there_first before h l after CleanedAgain t less holds =
    let same : holds.between ≡ t.between = next_fence_once h after holds.between t.between holds.later t.later holds.fence t.fence in
    t.none (subst (λ (events : List Event). Contains events (Clean h l)) same holds.again)
no_there_first before h l after AlreadyThere t less holds = omega arith

holds_there : (before : List Event) (h l : ℕ) (after : List Event) → IsThere (history before) h l after → IsAlreadyThere before h l after
holds_there before h l after t =
    let p = history before in
    let but = but_back h l t.between (step.Clean h l ∷ p) p t.fence.next (but_clean h l p) in
    record {
      between = t.between;
      later = t.later;
      fence = t.fence;
      there = rw (history_back before (Clean h l ∷ t.between)) (omega (arith, but.level, t.there));
    }

holds_nothing : (before : List Event) (h : ℕ) → ((l : ℕ) → cleaned l h (history before) ≤ floor l (history before)) →
    (l : ℕ) → floor l (history (before ++ Fence h ∷ [])) ≡ floor l (history before)
holds_nothing before h none l =
    ap (λ (p : List PersistenceStep). floor l p) (history_more before (Fence h))
    ∙ fence_level (floor l (history before)) (cleaned l h (history before)) (none l)

-- and it is the first reason that holds
pub reason_from : (before : List Event) (event : Event) (after : List Event) (reason : Reason) →
    Answers (history before) event after (Some reason) → IsReason before event after reason
reason_from before (Store h l o w v) after reason e = absurd (cc)
reason_from before (Clean h l) after NotFenced a = record { holds = a; first = first_reason before (Clean h l) after }
reason_from before (Clean h l) after NothingToComplete a = absurd a
reason_from before (Clean h l) after CleanedAgain a = record {
  holds = a;
  first = λ other. no_again_first before h l after other (has_fence h after a.between a.later a.fence);
}
reason_from before (Clean h l) after AlreadyThere a = record {
  holds = holds_there before h l after a;
  first = λ other. no_there_first before h l after other a;
}
reason_from before (Fence h) after NotFenced a = absurd a
reason_from before (Fence h) after NothingToComplete a = record {
  holds = holds_nothing before h a;
  first = no_fence_first before h after;
}
reason_from before (Fence h) after CleanedAgain a = absurd a
reason_from before (Fence h) after AlreadyThere a = absurd a
reason_from before (Begin h op) after reason e = absurd (cc)
reason_from before (End h op) after reason e = absurd (cc)

-- a fence at which a floor rises changes that one
pub fence_changes : (p : List PersistenceStep) (h l : ℕ) (after : List Event) → floor l p < cleaned l h p →
    floor l (back (take 0 after) p) ≢ floor l (back (take 0 after) (step.Fence h ∷ p))
fence_changes p h l after low e = omega arith

take_past : {X : Type 0} (xs : List X) (x : X) (ys : List X) → take (suc (length xs)) (xs ++ (x ∷ ys)) ≡ xs ++ x ∷ []
take_past [] x ys = refl
take_past (y ∷ xs) x ys = ap (λ (zs : List _). y ∷ zs) (take_past xs x ys)

raised : (f g c d s : ℕ) → g ≡ f → c ≡ s → d ≤ f → f < s → max f d ≡ max g c → ⊥
raised f g c d s e i j k same = omega arith

-- a clean that its hart's next fence needs changes the floor there, where what the hart cleaned before is in the floor already
pub clean_changes : (p : List PersistenceStep) (h l : ℕ) (after : List Event) (needed : IsNeeded p h l after) → cleaned l h p ≤ floor l p →
    floor l (back (take (suc (length needed.between)) after) p)
    ≢ floor l (back (take (suc (length needed.between)) after) (step.Clean h l ∷ p))
clean_changes p h l after n settled e =
    let b = n.between in
    let q = step.Clean h l ∷ p in
    let cut : take (suc (length b)) after ≡ b ++ Fence h ∷ [] = rw n.fence.place (take_past b (Fence h) n.later) in
    let but = but_back h l b q p n.fence.next (but_clean h l p) in
    let with_it : cleaned l h (back b q) ≡ stores l p = cleaned_stays h l b q n.none ∙ own_clean h l p in
    let without_it : cleaned l h (back b p) ≡ cleaned l h p = cleaned_stays h l b p n.none in
    let at_fence : max (floor l (back b p)) (cleaned l h (back b p)) ≡ max (floor l (back b q)) (cleaned l h (back b q)) =
    sym (ap (λ (r : List PersistenceStep). floor l r) (ap (λ (es : List Event). back es p) cut ∙ back_back b (Fence h ∷ []) p))
    ∙ e
    ∙ ap (λ (r : List PersistenceStep). floor l r) (ap (λ (es : List Event). back es q) cut ∙ back_back b (Fence h ∷ []) q) in
    raised (floor l (back b p)) (floor l (back b q)) (cleaned l h (back b q)) (cleaned l h (back b p)) (stores l p) but.level with_it
    (omega (arith, without_it, settled, floor_grows l b p)) n.low at_fence
