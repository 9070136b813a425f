-- Each clean and each fence of a list of events has an answer.
use Rattle.std.proofs.Common.{◌≡◌, ◌≢◌, ℕ, zero, suc, ◌+◌, ◌<◌, ◌≤◌, ◌⊎◌, inl, inr, ◌==◌, ◌&&◌, false, List, [], ◌∷◌, ◌++◌, Option, Some, None, max, arith, refl, ap}
use Rattle.std.specs.Prelude.{Contains}
use Rattle.std.proofs.lemmas.Bool.Decides.{nat_tests}
use Rattle.store_trace.specs.Floor.{cleaned, floor}
use Rattle.store_trace.specs.Stores.{stores}
use Rattle.store_trace.specs.declared.crash_model.step.PersistenceStep.{PersistenceStep}
use Rattle.store_trace.specs.declared.crash_model.step.PersistenceStep.TheVariants as step
use Rattle.store_trace.specs.History.{steps_of}
use Rattle.store_trace.specs.declared.event.Event.{Event}
use Rattle.store_trace.specs.declared.event.Event.TheVariants.{Store, Clean, Fence, Begin, End}
use Rattle.durability.proofs.Alike.{eq_or_not, test_of}
use Rattle.durability.proofs.Answers.{Answers, AnswersClean, AnswersFence}
use Rattle.durability.proofs.Back.{back}
use Rattle.durability.proofs.Greedy.{AreAnswers, hart_of}
use Rattle.durability.proofs.Lacks.{contains_head, contains_tail, none_in_cons, none_in_nil}
use Rattle.durability.specs.Reasons.{IsNextFence}
use Rattle.durability.specs.declared.redundant.reason.Reason.{Reason}
use Rattle.durability.specs.declared.redundant.reason.Reason.TheVariants.{NotFenced, NothingToComplete, CleanedAgain, AlreadyThere}

pub le_or_gt : (a b : ℕ) → (a ≤ b) ⊎ (b < a)
le_or_gt a b = grind (arith, nat_tests)

pub is_fence : (h : ℕ) (event : Event) → (event ≡ Fence h) ⊎ (event ≢ Fence h)
is_fence h (Store g m o w v) = inr (λ e. cc)
is_fence h (Clean g m) = inr (λ e. cc)
is_fence h (Fence g) = elim (eq_or_not g h) [
  | inl e ↦ inl (ap (λ (n : ℕ). Fence n) e)
  | inr ne ↦ inr (λ e. ne (hart_of g h e))
]
is_fence h (Begin g op) = inr (λ e. cc)
is_fence h (End g op) = inr (λ e. cc)

clean_hart : (g m h l : ℕ) → Clean g m ≡ Clean h l → g ≡ h
clean_hart g m h l e = cc

clean_line : (g m h l : ℕ) → Clean g m ≡ Clean h l → m ≡ l
clean_line g m h l e = cc

tested : (g m h l : ℕ) → ((g == h) && (m == l)) ≡ false → g ≡ h → m ≡ l → ⊥
tested g m h l test e i = grind (arith, nat_tests, test, e, i)

pub is_clean : (h l : ℕ) (event : Event) → (event ≡ Clean h l) ⊎ (event ≢ Clean h l)
is_clean h l (Store g m o w v) = inr (λ e. cc)
is_clean h l (Clean g m) = elim (test_of g h m l) [
  | inl same ↦ inl (rw (same.0, same.1) refl)
  | inr test ↦ inr (λ e. tested g m h l test (clean_hart g m h l e) (clean_line g m h l e))
]
is_clean h l (Fence g) = inr (λ e. cc)
is_clean h l (Begin g op) = inr (λ e. cc)
is_clean h l (End g op) = inr (λ e. cc)

-- the hart's next fence, if there is one
record Next (h : ℕ) (after : List Event) : Type 0 where
  between : List Event
  later : List Event
  fence : IsNextFence h after between later

next_fence : (h : ℕ) (after : List Event) → (Contains after (Fence h) → ⊥) ⊎ Next h after
next_fence h [] = inl (none_in_nil (Fence h))
next_fence h (event ∷ after) = elim (is_fence h event) [
  | inl e ↦ inr (record {
    between = [];
    later = after;
    fence = record { place = rw e refl; next = none_in_nil (Fence h) };
  })
  | inr other ↦ elim (next_fence h after) [
    | inl none ↦ inl (none_in_cons event after (Fence h) other none)
    | inr next ↦ inr (record {
      between = event ∷ next.between;
      later = next.later;
      fence = record {
        place = ap (λ (es : List Event). event ∷ es) next.fence.place;
        next = none_in_cons event next.between (Fence h) other next.fence.next;
      };
    })
  ]
]

cleans : (h l : ℕ) (events : List Event) → Contains events (Clean h l) ⊎ (Contains events (Clean h l) → ⊥)
cleans h l [] = inr (none_in_nil (Clean h l))
cleans h l (event ∷ events) = elim (is_clean h l event) [
  | inl e ↦ inl (rw e (contains_head (Clean h l) events))
  | inr other ↦ elim (cleans h l events) [
    | inl later ↦ inl (contains_tail event events (Clean h l) later)
    | inr none ↦ inr (none_in_cons event events (Clean h l) other none)
  ]
]

answer_clean : (p : List PersistenceStep) (h l : ℕ) (after : List Event) → (reason : Option Reason) × AnswersClean p h l after reason
answer_clean p h l after = elim (next_fence h after) [
  | inl none ↦ (Some NotFenced, none)
  | inr next ↦ elim (cleans h l next.between) [
    | inl again ↦ (Some CleanedAgain, record { between = next.between; later = next.later; fence = next.fence; again = again })
    | inr none ↦ elim (le_or_gt (stores l p) (floor l (back next.between p))) [
      | inl there ↦
          (Some AlreadyThere, record { between = next.between; later = next.later; fence = next.fence; none = none; there = there })
      | inr low ↦ (None, record { between = next.between; later = next.later; fence = next.fence; none = none; low = low })
    ]
  ]
]

-- a number above all lines that are cleaned
above : List PersistenceStep → ℕ
above [] = 0
above (step.Store m o w v ∷ p) = above p
above (step.Clean g m ∷ p) = max (m + 1) (above p)
above (step.Fence g ∷ p) = above p
above (step.Evict m ∷ p) = above p

cleaned_above : (h l : ℕ) (p : List PersistenceStep) → above p ≤ l → cleaned l h p ≡ 0
unfolding above
cleaned_above h l [] high = refl
cleaned_above h l (step.Store m o w v ∷ p) high = cleaned_above h l p high
cleaned_above h l (step.Clean g m ∷ p) high = elim (test_of g h m l) [
  | inl same ↦ absurd (omega (arith, same.1, high))
  | inr other ↦ rw other (cleaned_above h l p (omega (arith, high)))
]
cleaned_above h l (step.Fence g ∷ p) high = cleaned_above h l p high
cleaned_above h l (step.Evict m ∷ p) high = cleaned_above h l p high

-- whether a line below n rises
rises_below : (f g : ℕ → ℕ) (n : ℕ) → ((l : ℕ) × (f l < g l)) ⊎ ((l : ℕ) → l < n → g l ≤ f l)
rises_below f g zero = inr (λ l less. omega arith)
rises_below f g (suc n) = elim (rises_below f g n) [
  | inl one ↦ inl one
  | inr none ↦ elim (le_or_gt (g n) (f n)) [
    | inl low ↦ inr (λ l less. elim (eq_or_not l n) [
      | inl e ↦ rw e low
      | inr ne ↦ none l (omega (arith, less, ne))
    ])
    | inr here ↦ inl (n, here)
  ]
]

answer_fence : (p : List PersistenceStep) (h : ℕ) → (reason : Option Reason) × AnswersFence p h reason
answer_fence p h = elim (rises_below (λ l. floor l p) (λ l. cleaned l h p) (above p)) [
  | inl one ↦ (None, one)
  | inr none ↦ (
    Some NothingToComplete,
    λ l. elim (le_or_gt (above p) l) [
      | inl high ↦ omega (arith, cleaned_above h l p high)
      | inr low ↦ none l low
    ],
  )
]

pub answer : (p : List PersistenceStep) (event : Event) (after : List Event) → (reason : Option Reason) × Answers p event after reason
answer p (Store h l o w v) after = (None, refl)
answer p (Clean h l) after = answer_clean p h l after
answer p (Fence h) after = answer_fence p h
answer p (Begin h op) after = (None, refl)
answer p (End h op) after = (None, refl)

pub answers : (p : List PersistenceStep) (events : List Event) → (told : List (Option Reason)) × AreAnswers p events told
answers p [] = ([], refl)
answers p (event ∷ events) =
    let one = answer p event events in
    let more = answers (steps_of event ++ p) events in
    let first : Option Reason = one.0 in
    (first ∷ more.0, (first, more.0, refl, one.1, more.1))
