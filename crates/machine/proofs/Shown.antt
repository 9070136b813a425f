-- What is shared shows what the definition makes of each request and eviction, and what a power cut then leaves.
use Rattle.std.proofs.Common.{◌≡◌, ℕ, ◌<◌, ◌≤◌, List, [], ◌∷◌, ◌++◌, length, true, eqb, refl, sym, ap, ◌∙◌, inl, inr, arith}
use Rattle.std.proofs.lemmas.Bool.{cases_Bool}
use Rattle.index_list.specs.Lists.{has}
use Rattle.store_trace.specs.Cut.{IsCutImage}
use Rattle.store_trace.specs.Image.{image}
use Rattle.store_trace.specs.Schedule.{without_evictions}
use Rattle.store_trace.specs.WrittenBack.{write_back_state}
use Rattle.store_trace.specs.declared.crash_model.step.PersistenceStep.{PersistenceStep}
use Rattle.store_trace.proofs.Explained.{cut_image_without_evictions, image_without_evictions}
use Rattle.clean_fence.specs.Rules.{PmView, after_evict}
use Rattle.clean_fence.specs.Represents.{AreAmong, Represents}
use Rattle.line_memory.specs.Memory.{Memory}
use Rattle.store_trace.specs.History.{history}
use Rattle.store_trace.specs.declared.event.Event.{Event}
use Rattle.hart.specs.declared.need.Reply.{Reply}
use Rattle.hart.specs.declared.need.Request.{Request}
use Rattle.machine.specs.declared.shared_memory.history.Entry.{Entry}
use Rattle.machine.specs.declared.shared_memory.history.Entry.TheVariants.{Asked, Evicted}
use Rattle.machine.specs.Cached.{RepresentsEvicting, cache_after, cache_left, medium_left}
use Rattle.machine.specs.Histories.{memory_after}
use Rattle.machine.specs.Persisted.{lines_used, persisted, touched}
use Rattle.machine.specs.Replies.{SharedState, events_of, reply_after, shared_after, trace_in, trace_of}
use Rattle.machine.specs.SharedView.{Evicts, IsExact, RepresentsShared, Serves, SharedView, reply_to}
use Rattle.machine.proofs.SharedMemoryStepping.{evicting, history_evicts_nothing, history_more, unforced, without_append}
use Rattle.machine.proofs.Reserving.{held_as}

-- lines among others
has_left : (x : ℕ) (xs ys : List ℕ) → has x xs ≡ true → has x (xs ++ ys) ≡ true
has_left x [] ys h = absurd (cc)
has_left x (y ∷ xs) ys h = elim (cases_Bool (eqb x y)) [
  | inl e ↦ rw e refl
  | inr e ↦ rw e (has_left x xs ys (rw e at h))
]

has_right : (x : ℕ) (xs ys : List ℕ) → has x ys ≡ true → has x (xs ++ ys) ≡ true
has_right x [] ys h = h
has_right x (y ∷ xs) ys h = elim (cases_Bool (eqb x y)) [
  | inl e ↦ rw e refl
  | inr e ↦ rw e (has_right x xs ys h)
]

among_left : (xs ys lines : List ℕ) → AreAmong (xs ++ ys) lines → AreAmong xs lines
among_left xs ys lines among = record { each = λ x h. among.each x (has_left x xs ys h) }

among_right : (xs ys lines : List ℕ) → AreAmong (xs ++ ys) lines → AreAmong ys lines
among_right xs ys lines among = record { each = λ x h. among.each x (has_right x xs ys h) }

-- the same steps by another name
evicting_as : (start : List (List ℕ)) (p q : List PersistenceStep) (cache : PmView) → RepresentsEvicting start p cache → p ≡ q
    → RepresentsEvicting start q cache
evicting_as start p q cache s e = rw (← e) s

-- the reply to a request is the one that the definition gives
pub reply_stands : (shared : SharedView) (h : ℕ) (request : Request) (c : SharedState) → h < 8 → RepresentsShared shared c
    → reply_to shared h request ≡ reply_after c h request
reply_stands shared h request c few shows =
    rw (shows.memory, held_as shared c.history h few shows.reserved) refl

-- the steps of a history's events are its steps without the evictions
steps_of_history : (entries : List Entry) → history (trace_of entries) ≡ without_evictions (persisted entries)
steps_of_history [] = refl
steps_of_history (Asked h request reply ∷ before) =
    let events : List Event = events_of h request reply in
    history_more (trace_of before) events
    ∙ ap (λ (p : List PersistenceStep). history events ++ p) (steps_of_history before)
    ∙ sym (without_append (history events) (persisted before)
    ∙ ap (λ (p : List PersistenceStep). p ++ without_evictions (persisted before)) (history_evicts_nothing events))
steps_of_history (Evicted line ∷ before) = steps_of_history before

-- what is shared after a request shows what the definition makes of it
served_as_told : (old new : SharedView) (h : ℕ) (request : Request) (c : SharedState)
    → Serves old new h request (reply_after c h request) → RepresentsShared old c → RepresentsShared new (shared_after c h request)
served_as_told old new h request c serves shows =
    let reply : Reply = reply_after c h request in
    record {
      memory = serves.memory ∙ ap (λ (m : Memory). memory_after m request (reply_after c h request)) shows.memory;
      reserved = serves.reserved _ shows.reserved;
      trace = serves.trace ∙ ap (λ (t : List Event). t ++ events_of h request (reply_after c h request)) shows.trace;
      cached = evicting_as c.start _ _ new.cache (evicting _ _ _ _ _ serves.steps.1 c.start (history (trace_in c)) shows.cached)
          (ap (λ (p : List PersistenceStep). p ++ history (trace_in c)) (history_evicts_nothing (events_of h request (reply_after c h request)))
          ∙ sym (history_more (trace_in c) (events_of h request (reply_after c h request))));
      unforced = λ lines few among.
          let capacity = serves.steps.1.sizes.capacity in
          let room : length lines ≤ old.cache.cache.capacity = omega arith in
          let before : AreAmong (touched c.history) lines =
          among_right (lines_used request (reply_after c h request)) (touched c.history) lines among in
          let now : AreAmong (lines_used request (reply_after c h request)) lines =
          among_left (lines_used request (reply_after c h request)) (touched c.history) lines among in
          unforced _ _ _ _ _ serves.steps.1 c.start lines (persisted c.history) (shows.unforced lines room before) now;
    }

pub served_shows : (old new : SharedView) (h : ℕ) (request : Request) (reply : Reply) (c : SharedState) → h < 8
    → Serves old new h request reply → RepresentsShared old c → RepresentsShared new (shared_after c h request)
served_shows old new h request reply c few serves shows =
    let same : reply ≡ reply_after c h request = serves.reply ∙ reply_stands old h request c few shows in
    served_as_told old new h request c (rw same at serves) shows

-- and after an eviction
pub evicted_shows : (old new : SharedView) (line : ℕ) (c : SharedState) → Evicts old new line → RepresentsShared old c
    → RepresentsShared new (record c { history = Evicted line ∷ c.history })
evicted_shows old new line c evicts shows = record {
  memory = evicts.memory ∙ shows.memory;
  reserved = rw evicts.reserved shows.reserved;
  trace = evicts.trace ∙ shows.trace;
  cached = evicting _ _ _ _ _ evicts.steps c.start (history (trace_in c)) shows.cached;
  unforced = λ lines few among.
      let capacity = evicts.steps.sizes.capacity in
      let room : length lines ≤ old.cache.cache.capacity = omega arith in
      unforced _ _ _ _ _ evicts.steps c.start lines (persisted c.history) (shows.unforced lines room among) (among_left [] (touched c.history) lines among);
}

-- an exact cache stays exact: the same cache of the same capacity
exact_as : (old new next : PmView) (start : List (List ℕ)) (entries : List Entry) → new.cache.capacity ≡ old.cache.capacity
    → new ≡ next → next ≡ cache_left old.cache.capacity start entries → new ≡ cache_left new.cache.capacity start entries
exact_as old new next start entries capacity is left =
    is ∙ left ∙ ap (λ (n : ℕ). cache_left n start entries) (sym capacity)

pub served_exact : (old new : SharedView) (h : ℕ) (request : Request) (reply : Reply) (c : SharedState) → h < 8
    → Serves old new h request reply → RepresentsShared old c → IsExact old c → IsExact new (shared_after c h request)
served_exact old new h request reply c few serves shows exact =
    let same : reply ≡ reply_after c h request = serves.reply ∙ reply_stands old h request c few shows in record {
      cache = exact_as old.cache new.cache (cache_after h request reply old.cache) c.start (Asked h request (reply_after c h request) ∷ c.history)
          serves.steps.1.sizes.capacity serves.cache
          (ap (λ (r : Reply). cache_after h request r old.cache) same
          ∙ ap (λ (cache : PmView). cache_after h request (reply_after c h request) cache) exact.cache);
    }

pub evicted_exact : (old new : SharedView) (line : ℕ) (c : SharedState) → Evicts old new line → IsExact old c
    → IsExact new (record c { history = Evicted line ∷ c.history })
evicted_exact old new line c evicts exact = record {
  cache = exact_as old.cache new.cache (after_evict line old.cache) c.start (Evicted line ∷ c.history)
      evicts.steps.sizes.capacity evicts.cache (ap (λ (cache : PmView). after_evict line cache) exact.cache);
}

-- the medium behind an exact cache
pub exact_medium : (shared : SharedView) (c : SharedState) → IsExact shared c
    → shared.cache.lines ≡ medium_left shared.cache.cache.capacity c.start c.history
exact_medium shared c exact = ap (λ (cache : PmView). cache.lines) exact.cache

-- what a power cut leaves
pub leaves_cut : (shared : SharedView) (medium : List (List ℕ))
    → ((start : List (List ℕ)) (p : List PersistenceStep) → Represents start p shared.cache → IsCutImage start p medium)
    → (c : SharedState) → RepresentsShared shared c → IsCutImage c.start (history (trace_in c)) medium
leaves_cut shared medium cut c shows =
    rw shows.cached.others at
    (cut_image_without_evictions c.start shows.cached.steps medium (cut c.start shows.cached.steps shows.cached.represents))

pub leaves_written_back : (shared : SharedView) (medium : List (List ℕ))
    → ((start : List (List ℕ)) (p : List PersistenceStep) → Represents start p shared.cache → medium ≡ image start (λ l. (write_back_state l p).count) p)
    → (c : SharedState) (lines : List ℕ) → RepresentsShared shared c → length lines ≤ shared.cache.cache.capacity → AreAmong (touched c.history) lines
    → medium ≡ image c.start (λ l. (write_back_state l (persisted c.history)).count) (history (trace_in c))
leaves_written_back shared medium written c lines shows few among =
    let p : List PersistenceStep = persisted c.history in
    let stands = shows.unforced lines few among in
    written c.start (persisted c.history) stands.represents
    ∙ sym (image_without_evictions c.start (λ l. (write_back_state l (persisted c.history)).count) (persisted c.history))
    ∙ ap (λ (q : List PersistenceStep). image c.start (λ l. (write_back_state l (persisted c.history)).count) q) (sym (steps_of_history c.history))
