-- What is known of a run before its first event.
use Rattle.std.proofs.Common.{◌≡◌, ℕ, ◌<◌, List, ◌++◌, Option, length, get_or, take, drop, arith, refl, subst, sym}
use Rattle.std.proofs.lemmas.Grind.{common_steps}
use Rattle.store_trace.specs.declared.event.Event.{Event}
use Rattle.store_trace.specs.declared.event.Event.TheVariants.{Clean, Fence}
use Rattle.durability.proofs.Moments.{none_empty}
use Rattle.durability.specs.Reading.{AreLastFences, AreLines, AreTold, IsLastClean, IsLastFence, IsLine}
use Rattle.durability.specs.declared.redundant.reading.LastClean.{LastClean}
use Rattle.durability.specs.declared.redundant.reading.LineState.{LineState}
use Rattle.durability.specs.declared.redundant.reason.Reason.{Reason}

none_made : (events : List Event) (h l : ℕ) → IsLastClean events 0 h l (record { event = 0; stores = 0 })
none_made events h l = record {
  within = omega arith;
  last = none_empty events 0 0 (Clean h l) (omega arith);
  is = λ place e. absurd (omega (arith, e));
  before = λ place e. absurd (omega (arith, e));
  count = refl;
}

pub no_fences : (events : List Event) (numbers : List ℕ) → ((h d : ℕ) → h < 8 → get_or numbers h d ≡ 0) → AreLastFences events 0 numbers
no_fences events numbers none = λ h d low. subst (λ (n : ℕ). IsLastFence events 0 h n) (sym (none h d low)) (record {
  within = omega arith;
  last = none_empty events 0 0 (Fence h) (omega arith);
  is = λ place e. absurd (omega (arith, e));
  settled = λ l other. omega arith;
})

pub no_events : (events : List Event) (lines : List LineState) (start : LineState) → ((l : ℕ) (d : LineState) → l < length lines → get_or lines l d ≡ start) →
    start.stores ≡ 0 → start.floor ≡ 0 → length start.cleans ≡ 8 →
    ((h : ℕ) (d : LastClean) → h < 8 → get_or start.cleans h d ≡ record { event = 0; stores = 0 }) → AreLines events 0 lines
no_events events lines start all stores floor harts cleans = λ l d within. subst (λ (s : LineState). IsLine events 0 l s) (sym (all l d within)) (record {
  counted = record {
    count = stores;
    few = omega (arith, stores);
    harts = harts;
    cleans = λ h e low. subst (λ (one : LastClean). IsLastClean events 0 h l one) (sym (cleans h e low)) (none_made events h l);
  };
  level = floor;
})

pub none_told : (events : List Event) (told : List (Option Reason)) → AreTold events 0 0 told
none_told events told = λ i d low. absurd (omega (arith, low))

-- the slice of a whole Vec, given back
pub slice_back : {X : Type 0} (n : ℕ) (new old : List X) → length new ≡ n → take n (new ++ drop (length new) old) ≡ new
slice_back n new old e = grind (arith, common_steps, e)
