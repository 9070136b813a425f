-- What is told of a whole run answers each of its events.
use Rattle.std.proofs.Common.{◌≡◌, ℕ, zero, suc, ◌+◌, ◌-◌, ◌<◌, ◌≤◌, inl, inr, List, [], ◌∷◌, ◌++◌, Option, Some, None, length, get_or, take, drop, arith, refl, ap, ◌∙◌, sym, subst, length-append}
use Rattle.std.proofs.lemmas.List.{get_or-take, length-take, take_at}
use Rattle.std.proofs.lemmas.Option.{get_or_from_slice_get, slice_get-get_or, slice_get_within}
use Rattle.std.specs.Prelude.{◌↔◌, Contains, slice_get}
use Rattle.store_trace.specs.Floor.{cleaned, floor}
use Rattle.store_trace.specs.Stores.{stores}
use Rattle.store_trace.specs.declared.crash_model.step.PersistenceStep.{PersistenceStep}
use Rattle.store_trace.specs.declared.crash_model.step.PersistenceStep.TheVariants as step
use Rattle.store_trace.specs.History.{at_moment, history, steps_of}
use Rattle.store_trace.specs.declared.event.Event.{Event}
use Rattle.store_trace.specs.declared.event.Event.TheVariants.{Store, Clean, Fence, Begin, End}
use Rattle.durability.proofs.Alike.{but_back, but_clean}
use Rattle.durability.proofs.Answers.{Answers, AnswersClean, AnswersFence}
use Rattle.durability.proofs.Back.{back, history_back, history_more, one_more}
use Rattle.durability.proofs.Greedy.{AreAnswers, needless_from_answers}
use Rattle.durability.proofs.Leaving.{needless_once}
use Rattle.durability.specs.Found.{AreNeedless, with_reasons}
use Rattle.durability.specs.Reading.{AreTold, HasWithin, IsAnswered, IsRising, IsTold}
use Rattle.durability.specs.Reasons.{IsNextFence}
use Rattle.durability.specs.declared.redundant.reason.Needless.{Needless}
use Rattle.durability.specs.declared.redundant.reason.Reason.{Reason}
use Rattle.durability.specs.declared.redundant.reason.Reason.TheVariants.{NotFenced, NothingToComplete, CleanedAgain, AlreadyThere}

slice_get_right : (before rest : List Event) (k : ℕ) → slice_get (before ++ rest) (length before + k) ≡ slice_get rest k
slice_get_right [] rest k = let e : 0 + k ≡ k = omega arith in ap (λ (n : ℕ). slice_get rest n) e
slice_get_right (x ∷ xs) rest k =
    let e : suc (length xs) + k ≡ suc (length xs + k) = omega arith in
    ap (λ (n : ℕ). slice_get (x ∷ (xs ++ rest)) n) e ∙ slice_get_right xs rest k

take_over : (before rest : List Event) (x : Event) (k : ℕ) → take (length before + suc k) (before ++ (x ∷ rest)) ≡ before ++ (x ∷ take k rest)
take_over [] rest x k = let e : 0 + suc k ≡ suc k = omega arith in ap (λ (n : ℕ). take n (x ∷ rest)) e
take_over (y ∷ ys) rest x k =
    let e : suc (length ys) + suc k ≡ suc (length ys + suc k) = omega arith in
    ap (λ (n : ℕ). take n (y ∷ (ys ++ (x ∷ rest)))) e ∙ ap (λ (es : List Event). y ∷ es) (take_over ys rest x k)

split_at : (rest : List Event) (k : ℕ) (x : Event) → slice_get rest k ≡ Some x → rest ≡ take k rest ++ (x ∷ drop (suc k) rest)
split_at [] k x is = absurd (cc)
split_at (y ∷ ys) zero x is = let e : y ≡ x = cc in ap (λ (z : Event). z ∷ ys) e
split_at (y ∷ ys) (suc k) x is = ap (λ (es : List Event). y ∷ es) (split_at ys k x is)

-- a run that has this event at this place
record IsPlaced (events before : List Event) (here : Event) (rest : List Event) : Type 0 where
  whole : events ≡ before ++ (here ∷ rest)

get_past : (events before : List Event) (here : Event) (rest : List Event) (k : ℕ) → IsPlaced events before here rest →
    slice_get events (length before + 1 + k) ≡ slice_get rest k
get_past events before here rest k p =
    let e : length before + 1 + k ≡ length before + suc k = omega arith in
    ap (λ (es : List Event). slice_get es (length before + 1 + k)) p.whole
    ∙ ap (λ (n : ℕ). slice_get (before ++ (here ∷ rest)) n) e
    ∙ slice_get_right before (here ∷ rest) (suc k)

moment_of : (events before : List Event) (here : Event) (rest : List Event) → IsPlaced events before here rest →
    at_moment events (length before) ≡ history before
moment_of events before here rest p =
    ap (λ (es : List Event). history (take (length before) es)) p.whole
    ∙ ap (λ (es : List Event). history es) (take_at before (here ∷ rest) (length before) refl)

moment_past : (events before : List Event) (here : Event) (rest : List Event) (k : ℕ) → IsPlaced events before here rest →
    at_moment events (length before + 1 + k) ≡ back (take k rest) (steps_of here ++ history before)
moment_past events before here rest k p =
    let e : length before + 1 + k ≡ length before + suc k = omega arith in
    ap (λ (es : List Event). history (take (length before + 1 + k) es)) p.whole
    ∙ ap (λ (n : ℕ). history (take n (before ++ (here ∷ rest)))) e
    ∙ ap (λ (es : List Event). history es) (take_over before rest here k)
    ∙ history_back before (here ∷ take k rest)

-- what stands between places stands in the lists between them
has_from : (events before : List Event) (here : Event) (rest : List Event) (k m : ℕ) (event : Event) → IsPlaced events before here rest →
    k < length rest → get_or rest k event ≡ event → length before + 1 + k < m → HasWithin events (length before + 1) m event
has_from events before here rest k m event p within is low = record {
  place = length before + 1 + k;
  from = omega arith;
  below = low;
  is = get_past events before here rest k p ∙ slice_get-get_or rest k event within ∙ ap (λ (e : Event). Some e) is;
}

has_within : (events before : List Event) (here : Event) (rest : List Event) (k : ℕ) (event : Event) → IsPlaced events before here rest →
    Contains (take k rest) event → HasWithin events (length before + 1) (length before + 1 + k) event
has_within events before here rest k event p c =
    let i = c.0 in
    let size = length-take k rest in
    let low : i < k = omega (arith, c.1, size) in
    let within : i < length rest = omega (arith, c.1, size) in
    has_from events before here rest i (length before + 1 + k) event p within (sym (get_or-take k rest i event low) ∙ c.2) (omega (arith, low))

contains_of : (events before : List Event) (here : Event) (rest : List Event) (k : ℕ) (event : Event) → IsPlaced events before here rest →
    HasWithin events (length before + 1) (length before + 1 + k) event → Contains (take k rest) event
contains_of events before here rest k event p has =
    let i = has.place - (length before + 1) in
    let place : has.place ≡ length before + 1 + i = omega (arith, has.from) in
    let is : slice_get rest i ≡ Some event =
    sym (get_past events before here rest i p) ∙ subst (λ (n : ℕ). slice_get events n ≡ Some event) place has.is in
    let low : i < k = omega (arith, has.below, place) in
    let within : i < length rest = slice_get_within rest i event is in
    let size = length-take k rest in
    (i, omega (arith, low, within, size), get_or-take k rest i event low ∙ get_or_from_slice_get rest i event event is)

-- a clean that a fence answers
fence_answers : (events before : List Event) (h l : ℕ) (rest : List Event) (k : ℕ) (reason : Option Reason) → IsPlaced events before (Clean h l) rest →
    IsNextFence h rest (take k rest) (drop (suc k) rest) → IsAnswered events (length before) h l (length before + 1 + k) reason →
    AnswersClean (history before) h l rest reason
fence_answers events before h l rest k (Some NotFenced) p fence a = absurd a
fence_answers events before h l rest k (Some NothingToComplete) p fence a = absurd a
fence_answers events before h l rest k (Some CleanedAgain) p fence a = record {
  between = take k rest;
  later = drop (suc k) rest;
  fence = fence;
  again = contains_of events before (Clean h l) rest k (Clean h l) p a;
}
fence_answers events before h l rest k (Some AlreadyThere) p fence a =
    let q = history before in
    let but = but_back h l (take k rest) (step.Clean h l ∷ q) q fence.next (but_clean h l q) in
    let first = ap (λ (r : List PersistenceStep). stores l r) (moment_of events before (Clean h l) rest p) in
    let then = ap (λ (r : List PersistenceStep). floor l r) (moment_past events before (Clean h l) rest k p) in
    record {
      between = take k rest;
      later = drop (suc k) rest;
      fence = fence;
      none = λ c. a.0 (has_within events before (Clean h l) rest k (Clean h l) p c);
      there = omega (arith, a.1, first, then, but.level);
    }
fence_answers events before h l rest k None p fence a =
    let q = history before in
    let but = but_back h l (take k rest) (step.Clean h l ∷ q) q fence.next (but_clean h l q) in
    let first = ap (λ (r : List PersistenceStep). stores l r) (moment_of events before (Clean h l) rest p) in
    let then = ap (λ (r : List PersistenceStep). floor l r) (moment_past events before (Clean h l) rest k p) in
    record {
      between = take k rest;
      later = drop (suc k) rest;
      fence = fence;
      none = λ c. a.0 (has_within events before (Clean h l) rest k (Clean h l) p c);
      low = omega (arith, a.1, first, then, but.level);
    }

clean_answers : (events before : List Event) (h l : ℕ) (rest : List Event) (reason : Option Reason) → IsPlaced events before (Clean h l) rest →
    IsTold events (length events) (length before) (Clean h l) reason → AnswersClean (history before) h l rest reason
clean_answers events before h l rest reason p (inl waits) =
    let size : length events ≡ length before + suc (length rest) =
    ap (λ (es : List Event). length es) p.whole ∙ length-append before (Clean h l ∷ rest) in
    rw waits.told (λ c. waits.none (has_from events before (Clean h l) rest c.0 (length events) (Fence h) p c.1 c.2 (omega (arith, c.1, size))))
clean_answers events before h l rest reason p (inr done) =
    let k = done.fence - (length before + 1) in
    let place : done.fence ≡ length before + 1 + k = omega (arith, done.later) in
    let is : slice_get rest k ≡ Some (Fence h) =
    sym (get_past events before (Clean h l) rest k p) ∙ subst (λ (n : ℕ). slice_get events n ≡ Some (Fence h)) place done.is in
    let next : HasWithin events (length before + 1) (length before + 1 + k) (Fence h) → ⊥ =
    subst (λ (n : ℕ). HasWithin events (length before + 1) n (Fence h) → ⊥) place done.next in
    let fence : IsNextFence h rest (take k rest) (drop (suc k) rest) = record {
      place = split_at rest k (Fence h) is;
      next = λ c. next (has_within events before (Clean h l) rest k (Fence h) p c);
    } in
    fence_answers events before h l rest k reason p fence
    (subst (λ (n : ℕ). IsAnswered events (length before) h l n reason) place done.answered)

rising_answers : (events : List Event) (i h : ℕ) (q : List PersistenceStep) (reason : Option Reason) → at_moment events i ≡ q →
    IsRising events i h reason → AnswersFence q h reason
rising_answers events i h q (Some NotFenced) e a = absurd a
rising_answers events i h q (Some NothingToComplete) e a =
    subst (λ (r : List PersistenceStep). (l : ℕ) → cleaned l h r ≤ floor l r) e a
rising_answers events i h q (Some CleanedAgain) e a = absurd a
rising_answers events i h q (Some AlreadyThere) e a = absurd a
rising_answers events i h q None e a = subst (λ (r : List PersistenceStep). (l : ℕ) × (floor l r < cleaned l h r)) e a

event_answers : (events before : List Event) (event : Event) (rest : List Event) (reason : Option Reason) → IsPlaced events before event rest →
    IsTold events (length events) (length before) event reason → Answers (history before) event rest reason
event_answers events before (Store h l o w v) rest reason p t = t
event_answers events before (Clean h l) rest reason p t = clean_answers events before h l rest reason p t
event_answers events before (Fence h) rest reason p t =
    rising_answers events (length before) h (history before) reason (moment_of events before (Fence h) rest p) t
event_answers events before (Begin h op) rest reason p t = t
event_answers events before (End h op) rest reason p t = t

-- from this place on each event is told
abbrev TellsFrom : List Event → List Event → List Event → List (Option Reason) → Type 0
TellsFrom events before rest told = (k : ℕ) (event : Event) (d : Option Reason) → slice_get rest k ≡ Some event →
    IsTold events (length events) (length before + k) event (get_or told k d)

all_answer : (events before rest : List Event) (told : List (Option Reason)) → events ≡ before ++ rest → length told ≡ length rest →
    TellsFrom events before rest told → AreAnswers (history before) rest told
all_answer events before [] [] whole size t = refl
all_answer events before [] (one ∷ more) whole size t = absurd (omega (arith, size))
all_answer events before (event ∷ rest) [] whole size t = absurd (omega (arith, size))
all_answer events before (event ∷ rest) (one ∷ more) whole size t =
    let here : length before + 0 ≡ length before = omega arith in
    let this : IsTold events (length events) (length before) event one =
    subst (λ (n : ℕ). IsTold events (length events) n event one) here (t 0 event None refl) in
    let longer : length (before ++ event ∷ []) ≡ length before + 1 = length-append before (event ∷ []) in
    let others : TellsFrom events (before ++ event ∷ []) rest more = λ k e d is.
    let past : length before + suc k ≡ length (before ++ event ∷ []) + k = omega (arith, longer) in
    subst (λ (n : ℕ). IsTold events (length events) n e (get_or more k d)) past (t (suc k) e d is) in (
      one,
      more,
      refl,
      event_answers events before event rest one (record { whole = whole }) this,
      subst (λ (q : List PersistenceStep). AreAnswers q rest more) (history_more before event)
          (all_answer events (before ++ event ∷ []) rest more (whole ∙ one_more before rest event) (omega (arith, size)) others),
    )

-- what is told of a whole run are its needless events, and these alone
pub told_are_needless : (events : List Event) (told : List (Option Reason)) → length told ≡ length events →
    AreTold events (length events) (length events) told → AreNeedless events (with_reasons 1 told)
told_are_needless events told size t =
    needless_from_answers events told
    (all_answer events [] events told refl size
    (λ k event d is.
    let e : k ≡ 0 + k = omega arith in
    subst (λ (n : ℕ). IsTold events (length events) n event (get_or told k d)) e (t k d (slice_get_within events k event is) event is)))

pub needless_are_told : (events : List Event) (told : List (Option Reason)) → length told ≡ length events →
    AreTold events (length events) (length events) told → (found : List Needless) → AreNeedless events found ↔ (found ≡ with_reasons 1 told)
needless_are_told events told size t found =
    let mine : AreNeedless events (with_reasons 1 told) = told_are_needless events told size t in (
      λ f. needless_once events (with_reasons 1 told) found mine f,
      λ e. subst (λ (list : List Needless). AreNeedless events list) (sym e) mine,
    )
