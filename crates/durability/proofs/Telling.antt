-- What is told of the events, one event further.
use Rattle.std.proofs.Common.{◌≡◌, ◌≢◌, ℕ, ◌+◌, ◌-◌, ◌<◌, inl, inr, List, Option, Some, length, get_or, arith, refl, ◌∙◌, sym, subst}
use Rattle.std.proofs.lemmas.List.{get_or-set_other, get_or-set_same}
use Rattle.std.specs.Prelude.{slice_get, slice_set}
use Rattle.store_trace.specs.declared.event.Event.{Event}
use Rattle.store_trace.specs.declared.event.Event.TheVariants.{Store, Clean, Fence, Begin, End}
use Rattle.durability.proofs.Alike.{eq_or_not}
use Rattle.durability.proofs.Moments.{below_or_at, none_empty, none_more, same_event}
use Rattle.durability.specs.Reading.{AreTold, IsFenced, IsLastFence, IsTold, IsToldAt}
use Rattle.durability.specs.declared.redundant.reason.Reason.{Reason}
use Rattle.durability.specs.declared.redundant.reason.Reason.TheVariants.{NotFenced}

pub fenced_more : (events : List Event) (at i h l : ℕ) (reason : Option Reason) → IsFenced events at i h l reason →
    IsFenced events (at + 1) i h l reason
fenced_more events at i h l reason f = record {
  fence = f.fence;
  later = f.later;
  read = omega (arith, f.read);
  is = f.is;
  next = f.next;
  answered = f.answered;
}

-- an event that isn't the fence of the hart of a clean
pub told_stays : (events : List Event) (at i : ℕ) (event here : Event) (reason : Option Reason) → slice_get events at ≡ Some here →
    ((h l : ℕ) → event ≡ Clean h l → here ≡ Fence h → ⊥) → IsTold events at i event reason → IsTold events (at + 1) i event reason
told_stays events at i (Store h l o w v) here reason is other t = t
told_stays events at i (Clean h l) here reason is other t = elim t [
  | inl waits ↦ inl (record { told = waits.told; none = none_more events (i + 1) at here (Fence h) waits.none is (other h l refl) })
  | inr done ↦ inr (fenced_more events at i h l reason done)
]
told_stays events at i (Fence h) here reason is other t = t
told_stays events at i (Begin h op) here reason is other t = t
told_stays events at i (End h op) here reason is other t = t

pub all_told_stay : (events : List Event) (at : ℕ) (here : Event) (told : List (Option Reason)) → slice_get events at ≡ Some here →
    ((h : ℕ) → here ≡ Fence h → ⊥) → AreTold events at at told → AreTold events (at + 1) at told
all_told_stay events at here told is other t = λ i d low event at_i.
    told_stays events at i event here (get_or told i d) is (λ h l e. other h) (t i d low event at_i)

-- what is told of an event, at its place
pub told_at : (events : List Event) (at i : ℕ) (here : Event) (reason : Option Reason) → slice_get events i ≡ Some here →
    IsTold events at i here reason → IsToldAt events at i reason
told_at events at i here reason is t = λ event at_i.
    subst (λ (e : Event). IsTold events at i e reason) (same_event events i i here event is at_i refl) t

pub clean_is_open : (events : List Event) (at h l : ℕ) → IsTold events (at + 1) at (Clean h l) (Some NotFenced)
clean_is_open events at h l = inl (record { told = refl; none = none_empty events (at + 1) (at + 1) (Fence h) (omega arith) })

-- events before the last fence of the hart that fences now
fence_of : (h g : ℕ) → Fence h ≡ Fence g → g ≡ h
fence_of h g e = cc

clean_of : (g k l m : ℕ) → Clean g l ≡ Clean k m → g ≡ k
clean_of g k l m e = cc

not_both : (events : List Event) (i k g l h : ℕ) → slice_get events i ≡ Some (Clean g l) → slice_get events k ≡ Some (Fence h) → i ≢ k
not_both events i k g l h clean fence e = let same : Clean g l ≡ Fence h = same_event events i k (Clean g l) (Fence h) clean fence e in cc

pub told_past : (events : List Event) (at i h since : ℕ) (event : Event) (reason : Option Reason) → slice_get events at ≡ Some (Fence h) →
    IsLastFence events at h since → i < since → slice_get events i ≡ Some event → IsTold events at i event reason →
    IsTold events (at + 1) i event reason
told_past events at i h since (Store g l o w v) reason here f low is t = t
told_past events at i h since (Clean g l) reason here f low is t = elim (eq_or_not g h) [
  | inl same ↦ elim t [
    | inl waits ↦
        let k = since - 1 in
        let number : since ≡ k + 1 = omega (arith, low) in
        let fence : slice_get events k ≡ Some (Fence h) = f.is k number in
        let apart : i ≢ k = not_both events i k g l h is fence in
        absurd (waits.none (record {
          place = k;
          from = omega (arith, low, apart, number);
          below = omega (arith, f.within, number);
          is = rw same fence;
        }))
    | inr done ↦ inr (fenced_more events at i g l reason done)
  ]
  | inr ne ↦
      told_stays events at i (Clean g l) (Fence h) reason here (λ k m clean fence. ne (clean_of g k l m clean ∙ fence_of h k fence)) t
]
told_past events at i h since (Fence g) reason here f low is t = t
told_past events at i h since (Begin g op) reason here f low is t = t
told_past events at i h since (End g op) reason here f low is t = t

-- one more is told, at its place
pub told_one_more : (events : List Event) (at place : ℕ) (told : List (Option Reason)) (reason : Option Reason) → place < length told →
    AreTold events at place told → IsToldAt events at place reason → AreTold events at (place + 1) (slice_set told place reason)
told_one_more events at place told reason within t this = λ i d low. elim (below_or_at i place low) [
  | inl less ↦
      let ne : i ≢ place = omega (arith, less) in
      subst (λ (r : Option Reason). IsToldAt events at i r) (sym (get_or-set_other told place i reason d ne)) (t i d less)
  | inr e ↦
      rw e (subst (λ (r : Option Reason). IsToldAt events at place r) (sym (get_or-set_same told place reason d within)) this)
]
