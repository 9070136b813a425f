-- The steps of histories, and what calls of the cache make of all that it represents.
use Rattle.std.proofs.Common.{◌≡◌, ℕ, List, [], ◌∷◌, ◌++◌, map, reverse, flat_map, refl, ap, ◌∙◌}
use Rattle.std.proofs.lemmas.List.{reverse-append}
use Rattle.std.proofs.lemmas.Grind.{flat_map-append}
use Rattle.store_trace.specs.Schedule.{without_evictions}
use Rattle.store_trace.specs.declared.crash_model.step.PersistenceStep.{PersistenceStep}
use Rattle.store_trace.specs.declared.crash_model.step.PersistenceStep.TheVariants as step
use Rattle.store_trace.specs.History.{history, steps_of}
use Rattle.store_trace.specs.declared.event.Event.{Event}
use Rattle.store_trace.specs.declared.event.Event.TheVariants as events
use Rattle.clean_fence.specs.Rules.{PmView}
use Rattle.clean_fence.specs.Represents.{AreAmong, CacheSteps, RepresentsUnforced}
use Rattle.machine.specs.Cached.{RepresentsEvicting}

-- steps without their evictions
pub without_append : (p q : List PersistenceStep) → without_evictions (p ++ q) ≡ without_evictions p ++ without_evictions q
without_append [] q = refl
without_append (step.Store m o w v ∷ p) q = ap (λ (r : List PersistenceStep). step.Store m o w v ∷ r) (without_append p q)
without_append (step.Clean h m ∷ p) q = ap (λ (r : List PersistenceStep). step.Clean h m ∷ r) (without_append p q)
without_append (step.Fence h ∷ p) q = ap (λ (r : List PersistenceStep). step.Fence h ∷ r) (without_append p q)
without_append (step.Evict m ∷ p) q = without_append p q

events_evict_nothing : (xs : List Event) → without_evictions (flat_map steps_of xs) ≡ flat_map steps_of xs
events_evict_nothing [] = refl
events_evict_nothing (events.Store h l o w v ∷ xs) = ap (λ (r : List PersistenceStep). step.Store l o w v ∷ r) (events_evict_nothing xs)
events_evict_nothing (events.Clean h l ∷ xs) = ap (λ (r : List PersistenceStep). step.Clean h l ∷ r) (events_evict_nothing xs)
events_evict_nothing (events.Fence h ∷ xs) = ap (λ (r : List PersistenceStep). step.Fence h ∷ r) (events_evict_nothing xs)
events_evict_nothing (events.Begin h op ∷ xs) = events_evict_nothing xs
events_evict_nothing (events.End h op ∷ xs) = events_evict_nothing xs

pub history_evicts_nothing : (trace : List Event) → without_evictions (history trace) ≡ history trace
history_evicts_nothing trace = events_evict_nothing (reverse trace)

pub history_more : (trace more : List Event) → history (trace ++ more) ≡ history more ++ history trace
history_more trace more =
    ap (λ (all : List Event). flat_map steps_of all) (reverse-append trace more) ∙ flat_map-append steps_of (reverse more) (reverse trace)

-- steps after forced evictions
forced_evictions : (forced : List ℕ) (p : List PersistenceStep)
    → without_evictions (map (λ line. step.Evict line) forced ++ p) ≡ without_evictions p
forced_evictions [] p = refl
forced_evictions (line ∷ forced) p = forced_evictions forced p

forced_twice : (later forced : List ℕ) (p : List PersistenceStep)
    → map (λ line. step.Evict line) later ++ (map (λ line. step.Evict line) forced ++ p) ≡ map (λ line. step.Evict line) (later ++ forced) ++ p
forced_twice [] forced p = refl
forced_twice (line ∷ later) forced p = ap (λ (r : List PersistenceStep). step.Evict line ∷ r) (forced_twice later forced p)

-- what the cache represents after calls
pub evicting : (old new : PmView) (made : List PersistenceStep) (forced used : List ℕ) → CacheSteps old new made forced used
    → (start : List (List ℕ)) (p : List PersistenceStep) → RepresentsEvicting start p old → RepresentsEvicting start (without_evictions made ++ p) new
evicting old new made forced used calls start p s = record {
  steps = made ++ (map (λ line. step.Evict line) forced ++ s.steps);
  others = without_append made (map (λ line. step.Evict line) forced ++ s.steps)
      ∙ ap (λ (r : List PersistenceStep). without_evictions made ++ r) (forced_evictions forced s.steps ∙ s.others);
  represents = calls.represents start s.steps s.represents;
}

pub unforced : (old new : PmView) (made : List PersistenceStep) (forced used : List ℕ) → CacheSteps old new made forced used
    → (start : List (List ℕ)) (lines : List ℕ) (p : List PersistenceStep) → RepresentsUnforced start lines p old → AreAmong used lines
    → RepresentsUnforced start lines (made ++ p) new
unforced old new made forced used calls start lines p s among = record {
  represents = rw (calls.unforced lines s.room among) at (calls.represents start p s.represents);
  room = calls.room lines s.room among;
}

-- no call, and two of them
pub idle : (cache : PmView) → CacheSteps cache cache [] [] []
idle cache = record {
  sizes = record { harts = refl; capacity = refl; lines = refl };
  represents = λ start p s. s;
  room = λ lines r among. r;
  unforced = λ lines r among. refl;
}

pub two_calls : (old middle new : PmView) (made : List PersistenceStep) (forced later used : List ℕ) → CacheSteps old middle [] forced used
    → CacheSteps middle new made later used → CacheSteps old new made (later ++ forced) used
two_calls old middle new made forced later used a b = record {
  sizes = record {
    harts = b.sizes.harts ∙ a.sizes.harts;
    capacity = b.sizes.capacity ∙ a.sizes.capacity;
    lines = b.sizes.lines ∙ a.sizes.lines;
  };
  represents = λ start p s. rw (← forced_twice later forced p)
      (b.represents start (map (λ line. step.Evict line) forced ++ p) (a.represents start p s));
  room = λ lines r among. b.room lines (a.room lines r among) among;
  unforced = λ lines r among. rw (b.unforced lines (a.room lines r among) among, a.unforced lines r among) refl;
}
