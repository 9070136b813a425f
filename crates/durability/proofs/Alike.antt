-- Steps after which the floors of a line go the same way, whatever follows.
use Rattle.std.proofs.Common.{◌≡◌, ◌≢◌, ℕ, zero, suc, ◌+◌, ◌≤◌, ◌⊎◌, inl, inr, ◌==◌, ◌&&◌, false, List, [], ◌∷◌, ◌++◌, take, max, arith, refl, ap, ◌∙◌}
use Rattle.std.specs.Prelude.{Contains, if◌then◌else◌}
use Rattle.std.proofs.lemmas.Bool.{cases_Bool}
use Rattle.std.proofs.lemmas.Bool.Decides.{nat_tests}
use Rattle.store_trace.specs.Floor.{cleaned, floor}
use Rattle.store_trace.specs.Stores.{stores}
use Rattle.store_trace.specs.declared.crash_model.step.PersistenceStep.{PersistenceStep}
use Rattle.store_trace.specs.declared.crash_model.step.PersistenceStep.TheVariants as step
use Rattle.store_trace.specs.History.{steps_of}
use Rattle.store_trace.specs.declared.event.Event.{Event}
use Rattle.store_trace.specs.declared.event.Event.TheVariants.{Store, Clean, Fence, Begin, End}
use Rattle.durability.proofs.Back.{back}
use Rattle.durability.proofs.Lacks.{head_or_tail, no_head, no_tail}

-- the same floor of line l, and a fence of each hart would raise it to the same
pub record Alike (l : ℕ) (p q : List PersistenceStep) : Type 0 where
  pub count : stores l p ≡ stores l q
  pub level : floor l p ≡ floor l q
  pub reach : (h : ℕ) → max (floor l p) (cleaned l h p) ≡ max (floor l q) (cleaned l h q)

reach_store : (f c g d : ℕ) → f ≡ g → c ≡ d → max f c ≡ max g d
reach_store f c g d e i = omega arith

reach_fence : (f c d g e i : ℕ) → max f c ≡ max g e → max f d ≡ max g i → max (max f c) d ≡ max (max g e) i
reach_fence f c d g e i one other = omega arith

pub test_of : (h g m l : ℕ) → ((h ≡ g) × (m ≡ l)) ⊎ (((h == g) && (m == l)) ≡ false)
test_of h g m l = elim (cases_Bool ((h == g) && (m == l))) [
  | inl same ↦
      let hart : h ≡ g = grind (arith, nat_tests, same) in
      let line : m ≡ l = grind (arith, nat_tests, same) in
      inl (hart, line)
  | inr other ↦ inr other
]

reach_clean : (l g m h : ℕ) (p q : List PersistenceStep) → Alike l p q →
    max (floor l p) (cleaned l h (step.Clean g m ∷ p)) ≡ max (floor l q) (cleaned l h (step.Clean g m ∷ q))
reach_clean l g m h p q a = elim (cases_Bool ((g == h) && (m == l))) [
  | inl same ↦ rw same (reach_store (floor l p) (stores l p) (floor l q) (stores l q) a.level a.count)
  | inr other ↦ rw other (a.reach h)
]

pub stores_store : (l m : ℕ) (s t : ℕ) → s ≡ t → (if m == l then s + 1 else s) ≡ (if m == l then t + 1 else t)
stores_store l m s t e = rw e refl

alike_step : (l : ℕ) (event : Event) (p q : List PersistenceStep) → Alike l p q → Alike l (steps_of event ++ p) (steps_of event ++ q)
alike_step l (Store h m o w v) p q a = record {
  count = stores_store l m (stores l p) (stores l q) a.count;
  level = a.level;
  reach = a.reach;
}
alike_step l (Clean g m) p q a = record { count = a.count; level = a.level; reach = λ h. reach_clean l g m h p q a }
alike_step l (Fence g) p q a = record {
  count = a.count;
  level = a.reach g;
  reach = λ h. reach_fence (floor l p) (cleaned l g p) (cleaned l h p) (floor l q) (cleaned l g q) (cleaned l h q) (a.reach g) (a.reach h);
}
alike_step l (Begin h op) p q a = a
alike_step l (End h op) p q a = a

pub alike_back : (l : ℕ) (events : List Event) (p q : List PersistenceStep) → Alike l p q → Alike l (back events p) (back events q)
alike_back l [] p q a = a
alike_back l (event ∷ events) p q a = alike_back l events (steps_of event ++ p) (steps_of event ++ q) (alike_step l event p q a)

-- the same but for what hart h cleaned of line l
pub record SameBut (h l : ℕ) (p q : List PersistenceStep) : Type 0 where
  pub count : stores l p ≡ stores l q
  pub level : floor l p ≡ floor l q
  pub others : (g : ℕ) → g ≢ h → cleaned l g p ≡ cleaned l g q

others_clean : (l g m k : ℕ) (p q : List PersistenceStep) → stores l p ≡ stores l q → cleaned l k p ≡ cleaned l k q →
    cleaned l k (step.Clean g m ∷ p) ≡ cleaned l k (step.Clean g m ∷ q)
others_clean l g m k p q s c = elim (cases_Bool ((g == k) && (m == l))) [
  | inl same ↦ rw same s
  | inr other ↦ rw other c
]

but_step : (h l : ℕ) (event : Event) (p q : List PersistenceStep) → (event ≡ Fence h → ⊥) → SameBut h l p q →
    SameBut h l (steps_of event ++ p) (steps_of event ++ q)
but_step h l (Store g m o w v) p q other a = record {
  count = stores_store l m (stores l p) (stores l q) a.count;
  level = a.level;
  others = a.others;
}
but_step h l (Clean g m) p q other a = record {
  count = a.count;
  level = a.level;
  others = λ k ne. others_clean l g m k p q a.count (a.others k ne);
}
but_step h l (Fence g) p q other a =
    let ne : g ≢ h = λ e. other (ap (λ (n : ℕ). Fence n) e) in
    record {
      count = a.count;
      level = reach_store (floor l p) (cleaned l g p) (floor l q) (cleaned l g q) a.level (a.others g ne);
      others = a.others;
    }
but_step h l (Begin g op) p q other a = a
but_step h l (End g op) p q other a = a

pub but_back : (h l : ℕ) (events : List Event) (p q : List PersistenceStep) → (Contains events (Fence h) → ⊥) → SameBut h l p q →
    SameBut h l (back events p) (back events q)
but_back h l [] p q none a = a
but_back h l (event ∷ events) p q none a =
    but_back h l events (steps_of event ++ p) (steps_of event ++ q) (no_tail event events (Fence h) none)
    (but_step h l event p q (no_head event events (Fence h) none) a)

-- a clean is the same but for itself, and alike for other lines
other_hart : (h g m l : ℕ) → g ≢ h → ((h == g) && (m == l)) ≡ false
other_hart h g m l ne = grind (arith, nat_tests, ne)

other_line : (h g m l : ℕ) → m ≢ l → ((h == g) && (m == l)) ≡ false
other_line h g m l ne = grind (arith, nat_tests, ne)

pub but_clean : (h l : ℕ) (p : List PersistenceStep) → SameBut h l (step.Clean h l ∷ p) p
but_clean h l p = record { count = refl; level = refl; others = λ g ne. rw (other_hart h g l l ne) refl }

pub alike_clean : (h m l : ℕ) (p : List PersistenceStep) → m ≢ l → Alike l (step.Clean h m ∷ p) p
alike_clean h m l p ne = record { count = refl; level = refl; reach = λ g. rw (other_line h g m l ne) refl }

pub eq_or_not : (g h : ℕ) → (g ≡ h) ⊎ (g ≢ h)
eq_or_not g h = grind (arith, nat_tests)

-- what is the same but for a hart's cleans is alike where that hart reaches the same
pub alike_from : (h l : ℕ) (p q : List PersistenceStep) → SameBut h l p q →
    max (floor l p) (cleaned l h p) ≡ max (floor l q) (cleaned l h q) → Alike l p q
alike_from h l p q a own = record {
  count = a.count;
  level = a.level;
  reach = λ g. elim (eq_or_not g h) [
    | inl e ↦ rw e own
    | inr ne ↦ reach_store (floor l p) (cleaned l g p) (floor l q) (cleaned l g q) a.level (a.others g ne)
  ];
}

pub own_clean : (h l : ℕ) (p : List PersistenceStep) → cleaned l h (step.Clean h l ∷ p) ≡ stores l p
own_clean h l p = grind (arith, nat_tests)

-- another clean of the line by the hart makes all the same
pub alike_again : (h l : ℕ) (events : List Event) (p q : List PersistenceStep) → (Contains events (Fence h) → ⊥) →
    Contains events (Clean h l) → SameBut h l p q → Alike l (back events p) (back events q)
alike_again h l [] p q none c a = let lt = c.1 in absurd (omega arith)
alike_again h l (event ∷ events) p q none c a =
    let next = but_step h l event p q (no_head event events (Fence h) none) a in
    elim (head_or_tail event events (Clean h l) c) [
      | inl e ↦
          let now : SameBut h l (step.Clean h l ∷ p) (step.Clean h l ∷ q) = rw e at next in
          rw e (alike_back l events (step.Clean h l ∷ p) (step.Clean h l ∷ q) (alike_from h l (step.Clean h l ∷ p) (step.Clean h l ∷ q) now
          (rw (own_clean h l p, own_clean h l q) (reach_store (floor l p) (stores l p) (floor l q) (stores l q) a.level a.count))))
      | inr later ↦
          alike_again h l events (steps_of event ++ p) (steps_of event ++ q) (no_tail event events (Fence h) none) later next
    ]

-- without one, what the hart cleaned stays
pub cleaned_step : (h l : ℕ) (event : Event) (p : List PersistenceStep) → (event ≡ Clean h l → ⊥) →
    cleaned l h (steps_of event ++ p) ≡ cleaned l h p
cleaned_step h l (Store g m o w v) p other = refl
cleaned_step h l (Clean g m) p other = elim (test_of g h m l) [
  | inl same ↦ absurd (other (rw (same.0, same.1) refl))
  | inr test ↦ rw test refl
]
cleaned_step h l (Fence g) p other = refl
cleaned_step h l (Begin g op) p other = refl
cleaned_step h l (End g op) p other = refl

pub cleaned_stays : (h l : ℕ) (events : List Event) (p : List PersistenceStep) → (Contains events (Clean h l) → ⊥) →
    cleaned l h (back events p) ≡ cleaned l h p
cleaned_stays h l [] p none = refl
cleaned_stays h l (event ∷ events) p none =
    cleaned_stays h l events (steps_of event ++ p) (no_tail event events (Clean h l) none)
    ∙ cleaned_step h l event p (no_head event events (Clean h l) none)

-- floors only rise
pub floor_grows : (l : ℕ) (events : List Event) (p : List PersistenceStep) → floor l p ≤ floor l (back events p)
floor_grows l [] p = omega arith
floor_grows l (event ∷ events) p =
    let later = floor_grows l events (steps_of event ++ p) in
    let now = grown l event p in
    omega arith
  where
    grown : (l : ℕ) (event : Event) (p : List PersistenceStep) → floor l p ≤ floor l (steps_of event ++ p)
    grown l (Store g m o w v) p = omega arith
    grown l (Clean g m) p = omega arith
    grown l (Fence g) p = omega arith
    grown l (Begin g op) p = omega arith
    grown l (End g op) p = omega arith

-- up to a place from which on all is alike, the floors are the same
pub floors_along : (h l : ℕ) (between later : List Event) (m : ℕ) (p q : List PersistenceStep) →
    (Contains between (Fence h) → ⊥) → SameBut h l p q → Alike l (back between p) (back between q) →
    floor l (back (take m (between ++ later)) p) ≡ floor l (back (take m (between ++ later)) q)
floors_along h l [] later m p q none a now = (alike_back l (take m later) p q now).level
floors_along h l (event ∷ events) later zero p q none a now = a.level
floors_along h l (event ∷ events) later (suc m) p q none a now =
    floors_along h l events later m (steps_of event ++ p) (steps_of event ++ q) (no_tail event events (Fence h) none)
    (but_step h l event p q (no_head event events (Fence h) none) a) now

-- and so they are where the hart makes no fence
pub floors_open : (h l : ℕ) (events : List Event) (m : ℕ) (p q : List PersistenceStep) →
    (Contains events (Fence h) → ⊥) → SameBut h l p q →
    floor l (back (take m events) p) ≡ floor l (back (take m events) q)
floors_open h l [] zero p q none a = a.level
floors_open h l [] (suc m) p q none a = a.level
floors_open h l (event ∷ events) zero p q none a = a.level
floors_open h l (event ∷ events) (suc m) p q none a =
    floors_open h l events m (steps_of event ++ p) (steps_of event ++ q) (no_tail event events (Fence h) none)
    (but_step h l event p q (no_head event events (Fence h) none) a)
