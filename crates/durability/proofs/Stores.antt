-- The last store among the first events, one event more.
use Rattle.std.proofs.Common.{◌≡◌, ℕ, ◌+◌, ◌<◌, inl, inr, List, [], ◌∷◌, ◌++◌, Some, length, get_or, sym, subst, arith}
use Rattle.std.proofs.Math.Seq.{get_or-append_seam}
use Rattle.std.proofs.lemmas.List.{get_or_append_left, length-append}
use Rattle.store_trace.specs.declared.event.Event.{Event}
use Rattle.store_trace.specs.declared.event.Event.TheVariants.{Store}
use Rattle.durability.proofs.Lates.{last_or_before}
use Rattle.durability.proofs.Marks.{same_event}
use Rattle.durability.specs.Numbered.{event_at}
use Rattle.durability.specs.Stores.{AreLastStores, IsAnyStore, IsLastStore}

pub last_here : (events : List Event) (at h l o w v : ℕ) → event_at events (at + 1) ≡ Some (Store h l o w v) → IsLastStore events (at + 1) (at + 1)
last_here events at h l o w v here = record {
  own = inr (record { hart = h; line = l; store = record { offset = o; width = w; value = v; is = here } });
  among = omega arith;
  last = λ e s low. low;
}

pub last_stays : (events : List Event) (at last : ℕ) (event : Event) → event_at events (at + 1) ≡ Some event →
    ((h l o w v : ℕ) → event ≡ Store h l o w v → ⊥) → IsLastStore events at last → IsLastStore events (at + 1) last
last_stays events at last event here other a = record {
  own = a.own;
  among = omega (arith, a.among);
  last = λ e s low. elim (last_or_before e at low) [
    | inl is ↦
        let s2 = subst (λ (n : ℕ). IsAnyStore events n) is s in
        absurd (other s2.hart s2.line s2.store.offset s2.store.width s2.store.value
        (same_event events (at + 1) event (Store s2.hart s2.line s2.store.offset s2.store.width s2.store.value) here s2.store.is))
    | inr before ↦ a.last e s before
  ];
}

pub stores_more : (events : List Event) (at last : ℕ) (stores : List ℕ) → IsLastStore events (at + 1) last → AreLastStores events at stores →
    AreLastStores events (at + 1) (stores ++ last ∷ [])
stores_more events at last stores is a = record {
  size = omega (arith, length-append stores (last ∷ []), a.size);
  each = λ n d low. elim (last_or_before n at low) [
    | inl here ↦
        let place : n ≡ length stores = omega (arith, here, a.size) in
        let own : IsLastStore events n last = subst (λ (i : ℕ). IsLastStore events i last) (sym here) is in
        subst (λ (x : ℕ). IsLastStore events n x) (sym (subst (λ (i : ℕ). get_or (stores ++ last ∷ []) i d ≡ last) (sym place) (get_or-append_seam stores last [] d))) own
    | inr before ↦
        let there : n < length stores = omega (arith, before, a.size) in
        rw (get_or_append_left stores (last ∷ []) d n there) (a.each n d before)
  ];
}
