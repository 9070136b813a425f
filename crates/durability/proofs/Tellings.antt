-- Stores of a line by their numbers, and what comes after them.
use Rattle.std.proofs.Common.{◌≡◌, ℕ, zero, suc, ◌+◌, ◌-◌, ◌<◌, ◌≤◌, true, inl, inr, List, Some, length, get_or, refl, subst, arith}
use Rattle.std.proofs.lemmas.Bool.Decides.{nat_tests}
use Rattle.store_trace.specs.Floor.{floor}
use Rattle.store_trace.specs.Stores.{stores}
use Rattle.store_trace.specs.History.{at_moment}
use Rattle.store_trace.specs.declared.event.Event.{Event}
use Rattle.store_trace.specs.declared.event.Event.TheVariants.{Store, Clean, Fence, Begin, End}
use Rattle.durability.proofs.Firsts.{event_here}
use Rattle.durability.proofs.Floors.{le_or_gt, moment_more, no_event, past_is_open}
use Rattle.durability.specs.Causes.{AreFates, IsCompletion, IsFate, IsPast}
use Rattle.durability.specs.Cuts.{is_store_of, IsStoreNumber}
use Rattle.durability.specs.Numbered.{event_at, IsStore}
use Rattle.durability.specs.declared.cause.Fate.{Fate}

record StoreOf (l : ℕ) (event : Event) : Type 0 where
  hart : ℕ
  offset : ℕ
  width : ℕ
  value : ℕ
  is : event ≡ Store hart l offset width value

store_of : (l : ℕ) (event : Event) → is_store_of l event ≡ true → StoreOf l event
store_of l (Store h m o w v) test =
    let line : m ≡ l = grind (arith, nat_tests, test) in
    record { hart = h; offset = o; width = w; value = v; is = rw line refl }
store_of l (Clean h m) test = cc
store_of l (Fence h) test = cc
store_of l (Begin h op) test = cc
store_of l (End h op) test = cc

-- the event at this place is the line's store after its first k ones
pub store_found : (events : List Event) (m l k at : ℕ) (none : Event) → is_store_of l (get_or events at none) ≡ true → at < m →
    m ≤ length events → k ≡ stores l (at_moment events at) → IsStoreNumber events m l k (at + 1)
store_found events m l k at none test there high count =
    let s = store_of l (get_or events at none) test in
    let here : event_at events (at + 1) ≡ Some (Store s.hart l s.offset s.width s.value) = event_here events at none _ (omega (arith, there, high)) s.is in
    let e : at + 1 ≡ suc at = omega arith in
    let number : stores l (at_moment events (at + 1)) ≡ k + 1 =
    rw (e, moment_more events at (Store s.hart l s.offset s.width s.value) (rw e at here)) (grind (arith, nat_tests, count)) in
    record {
      hart = s.hart;
      store = record { offset = s.offset; width = s.width; value = s.value; is = here };
      number = number;
      made = omega (arith, there);
    }

-- a store has its fate at its place
pub fate_of_store : (events : List Event) (l h n : ℕ) (fates : List Fate) (d : Fate) → AreFates events 0 fates → IsStore events h l n →
    IsFate events l n (get_or fates (n - 1) d)
fate_of_store events l h zero fates d a store = absurd (no_event events (Store h l store.offset store.width store.value) store.is)
fate_of_store events l h (suc k) fates d a store =
    let e : k + 1 ≡ suc k = omega arith in
    let f : k ≡ suc k - 1 = omega arith in
    let base : IsFate events l (k + 1) (get_or fates k d) = a.each k h l store.offset store.width store.value d (omega arith) store.is in
    subst (λ (i : ℕ). IsFate events l (suc k) (get_or fates i d)) f (subst (λ (i : ℕ). IsFate events l i (get_or fates k d)) e base)

-- the last store of a line in a cut is past the floor where no clean after it is complete
pub kept_above : (events : List Event) (m l k n : ℕ) → IsStoreNumber events m l k n → m ≤ length events →
    ((j : ℕ) → IsCompletion events l n j → m < j) → floor l (at_moment events m) < k + 1
kept_above events m l k n s high late = omega (arith, s.number, (past_is_open events s.hart l n m s.store high).1 late)

pub kept_below : (events : List Event) (m l k n : ℕ) → IsStoreNumber events m l k n → m ≤ length events →
    (((j : ℕ) → IsCompletion events l n j → m < j) → ⊥) → k + 1 ≤ floor l (at_moment events m)
kept_below events m l k n s high early = elim (le_or_gt (k + 1) (floor l (at_moment events m))) [
  | inl reached ↦ reached
  | inr above ↦ absurd (early ((past_is_open events s.hart l n m s.store high).0 (omega (arith, s.number, above))))
]

-- no clean of a line after a store past its floor is complete
pub completion_is_late : (events : List Event) (m h l e n : ℕ) → m ≤ length events → IsPast events m h l e → IsCompletion events l e n → m < n
completion_is_late events m h l e n high past c = (past_is_open events h l e m past.store high).0 past.past n c
