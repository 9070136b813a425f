-- A schedule that follows the events of a recorded run, one event further, and what it leaves at the moment.
use Rattle.std.proofs.Common.{◌≡◌, ℕ, zero, suc, ◌+◌, ◌-◌, ◌<◌, ◌≤◌, ◌==◌, List, [], ◌∷◌, ◌++◌, Option, Some, None, length, take, drop, min, max, slice_get, get_or, refl, sym, ap, ◌∙◌, inl, inr, arith}
use Rattle.std.specs.Prelude.{slice_index_or}
use Rattle.std.proofs.lemmas.Bool.{cases_Bool}
use Rattle.std.proofs.lemmas.Bool.Decides.{nat_tests}
use Rattle.std.proofs.lemmas.List.{append-nil, append_cancel_left, drop-drop, get_or_default, length-take-le, take_more}
use Rattle.std.proofs.lemmas.Option.{slice_get-get_or}
use Rattle.store_trace.specs.Schedule.{explained}
use Rattle.store_trace.specs.Stores.{stores}
use Rattle.store_trace.specs.declared.crash_model.step.PersistenceStep.{PersistenceStep}
use Rattle.store_trace.specs.declared.crash_model.step.PersistenceStep.TheVariants as step
use Rattle.store_trace.specs.History.{at_moment, history, steps_of}
use Rattle.store_trace.specs.declared.event.Event.{Event}
use Rattle.store_trace.specs.declared.event.Event.TheVariants.{Store, Clean, Fence, Begin, End}
use Rattle.crash_image.proofs.Stored.{history_more}
use Rattle.machine.specs.Steps.{all_steps}
use Rattle.machine.specs.declared.schedule.items.Step.{Step}
use Rattle.machine.specs.declared.schedule.items.Step.TheVariants.{Hart, Evict}
use Rattle.machine.specs.Replies.{trace_in}
use Rattle.machine.specs.Persisted.{persisted}
use Rattle.machine.specs.declared.shared_memory.history.Entry.{Entry}
use Rattle.machine.specs.Evicting.{hart_steps}
use Rattle.machine.specs.Recorded.{IsMadeBy, RecordedView, Records}
use Rattle.machine.specs.Run.{Config, RunsTo}
use Rattle.witness.specs.Explains.{IsStoreOf, MakesStore, steps_by}
use Rattle.witness.specs.Walking.{AreDue, EvictInTime, Follows, FollowsFrom, StepsView, TakesSteps, eviction_of, line_due}
use Rattle.witness.proofs.HartRuns.{Adds, run_adds}
use Rattle.witness.proofs.Lists.{hart_steps_append, harts_between, take_then}
use Rattle.witness.proofs.RunFrom.{number_there, numbers_rise, recorded_steps, run_split, trace_through}

-- the persistence step of the eviction of a line, if there is one
abbrev pub evict_step : Option ℕ → List PersistenceStep
evict_step None = []
evict_step (Some line) = step.Evict line ∷ []

store_explained : (k : ℕ → ℕ) (p : List PersistenceStep) (h m o w v : ℕ) →
    explained k (step.Store m o w v ∷ p) ≡ evict_step (line_due k p (Store h m o w v)) ++ (step.Store m o w v ∷ explained k p)
store_explained k p h m o w v = elim (cases_Bool ((stores m p + 1) == k m)) [
  | inl is ↦ rw is refl
  | inr other ↦ rw other refl
]

-- the steps of one more event, with an eviction where its line has its number
pub explained_more : (k : ℕ → ℕ) (p : List PersistenceStep) (event : Event) →
    explained k (steps_of event ++ p) ≡ evict_step (line_due k p event) ++ (steps_of event ++ explained k p)
explained_more k p (Store h m o w v) = store_explained k p h m o w v
explained_more k p (Clean h m) = refl
explained_more k p (Fence h) = refl
explained_more k p (Begin h op) = refl
explained_more k p (End h op) = refl

-- an eviction makes no event, and its persistence step
eviction_trace : (c d : Config) (o : Option ℕ) → RunsTo c (eviction_of o) d → trace_in d.common ≡ trace_in c.common
eviction_trace c d None run = rw run refl
eviction_trace c d (Some line) run = rw (run.2, run.1) refl

eviction_persisted : (c d : Config) (o : Option ℕ) → RunsTo c (eviction_of o) d →
    persisted d.common.history ≡ evict_step o ++ persisted c.common.history
eviction_persisted c d None run = rw run refl
eviction_persisted c d (Some line) run = rw (run.2, run.1) refl

no_hart_steps : (o : Option ℕ) → hart_steps (eviction_of o) ≡ []
no_hart_steps None = refl
no_hart_steps (Some line) = refl

-- a line that is due has its store of its number then
due_store : (k : ℕ → ℕ) (p : List PersistenceStep) (event : Event) (line : ℕ) → line_due k p event ≡ Some line →
    IsStoreOf line event × (stores line p + 1 ≡ k line)
due_store k p (Store h m o w v) line e = elim (cases_Bool ((stores m p + 1) == k m)) [
  | inl is ↦
      let both : Some m ≡ Some line = sym (rw is refl) ∙ e in
      let same : m ≡ line = cc in
      let number : stores m p + 1 ≡ k m = grind (arith, nat_tests, is) in
      (same, rw same at number)
  | inr other ↦ absurd (let none : None ≡ Some line = rw other at e in cc)
]
due_store k p (Clean h m) line e = absurd (cc)
due_store k p (Fence h) line e = absurd (cc)
due_store k p (Begin h op) line e = absurd (cc)
due_store k p (End h op) line e = absurd (cc)

-- a later moment, and further steps
later_store : (recorded : RecordedView) (i line number made : ℕ) → MakesStore recorded i line number made
    → MakesStore recorded (i + 1) line number made
later_store recorded i line number made s = record {
  index = s.index;
  event = s.event;
  early = let early = s.early in omega arith;
  there = s.there;
  store = s.store;
  number_is = s.number_is;
  made_is = s.made_is;
}

later : (recorded : RecordedView) (k : ℕ → ℕ) (i made : ℕ) (steps : List Step) → EvictInTime recorded i k made steps
    → EvictInTime recorded (i + 1) k made steps
later recorded k i made [] e = tt
later recorded k i made (Hart h ∷ steps) e = later recorded k i (made + 1) steps e
later recorded k i made (Evict line ∷ steps) e =
    (later_store recorded i line (k line) made e.0, later recorded k i made steps e.1)

longer : (recorded : RecordedView) (k : ℕ → ℕ) (i made sum : ℕ) (first others : List Step) → sum ≡ made + length (hart_steps first)
    → EvictInTime recorded i k made first → EvictInTime recorded i k sum others → EvictInTime recorded i k made (first ++ others)
longer recorded k i made sum [] others is e f =
    let same : sum ≡ made = omega (arith, is) in rw same at f
longer recorded k i made sum (Hart h ∷ first) others is e f =
    longer recorded k i (made + 1) sum first others (omega (arith, is)) e f
longer recorded k i made sum (Evict line ∷ first) others is e f =
    (e.0, longer recorded k i made sum first others is e.1 f)

harts_in_time : (recorded : RecordedView) (k : ℕ → ℕ) (i made : ℕ) (steps : List Step) → EvictInTime recorded i k made (hart_steps steps)
harts_in_time recorded k i made [] = tt
harts_in_time recorded k i made (Hart h ∷ steps) = harts_in_time recorded k i (made + 1) steps
harts_in_time recorded k i made (Evict line ∷ steps) = harts_in_time recorded k i made steps

eviction_in_time : (recorded : RecordedView) (k : ℕ → ℕ) (i made : ℕ) (event : Event) (o : Option ℕ)
    → line_due k (at_moment recorded.trace i) event ≡ o → slice_get recorded.trace i ≡ Some event → slice_get recorded.steps i ≡ Some made
    → EvictInTime recorded (i + 1) k made (eviction_of o)
eviction_in_time recorded k i made event None due there number = tt
eviction_in_time recorded k i made event (Some line) due there number =
    let store = due_store k (at_moment recorded.trace i) event line due in (
      record {
        index = i;
        event = event;
        early = omega arith;
        there = there;
        store = store.0;
        number_is = store.1;
        made_is = number;
      },
      tt,
    )

-- the split form of it
pub split_in_time : (recorded : RecordedView) (k : ℕ → ℕ) (i made sum : ℕ) (before after : List Step) (line : ℕ)
    → sum ≡ made + length (hart_steps before) → EvictInTime recorded i k made (before ++ Evict line ∷ after)
    → MakesStore recorded i line (k line) sum
split_in_time recorded k i made sum [] after line is e = let same : sum ≡ made = omega (arith, is) in rw same e.0
split_in_time recorded k i made sum (Hart h ∷ before) after line is e =
    split_in_time recorded k i (made + 1) sum before after line (omega (arith, is)) e
split_in_time recorded k i made sum (Evict other ∷ before) after line is e =
    split_in_time recorded k i made sum before after line is e.1

-- numbers of hart steps by a moment
pub steps_next : (numbers : List ℕ) (i : ℕ) → steps_by numbers (i + 1) ≡ slice_index_or numbers i 0
steps_next numbers i = let e : i + 1 ≡ suc i = omega arith in ap (λ (n : ℕ). steps_by numbers n) e

-- event i, which its number says is made by that hart step
made_by : (c : Config) (recorded : RecordedView) (i : ℕ) → Records c recorded → i < length recorded.steps
    → IsMadeBy c (all_steps recorded.items) i (slice_index_or recorded.steps i 0)
made_by c recorded i r there = r.numbers i (slice_index_or recorded.steps i 0) (slice_get-get_or recorded.steps i 0 there)

-- the numbers by a moment are at most those by a later one
pub steps_rise : (c : Config) (recorded : RecordedView) (i j : ℕ) → Records c recorded → length recorded.steps ≡ length recorded.trace
    → i ≤ j → j ≤ length recorded.trace → steps_by recorded.steps i ≤ steps_by recorded.steps j
steps_rise c recorded zero j r each less there = omega arith
steps_rise c recorded (suc i) zero r each less there = absurd (omega arith)
steps_rise c recorded (suc i) (suc j) r each less there = elim (cases_Bool (i == j)) [
  | inl same ↦ let e : i ≡ j = grind (arith, nat_tests, same) in rw e (omega arith)
  | inr other ↦
      let apart : i < j = grind (arith, nat_tests, other, less) in
      numbers_rise c recorded i j _ _ r (made_by c recorded i r (omega arith)) (made_by c recorded j r (omega arith)) (omega arith) apart
]

-- one event further from c: a run of the steps so far, then of hart steps through the event's, and then of an eviction where
-- a line is due
further_trace : (c d : Config) (recorded : RecordedView) (i number : ℕ) (steps between : List Step) (o : Option ℕ) → Records c recorded
    → IsMadeBy c (all_steps recorded.items) i number → hart_steps (steps ++ between) ≡ take number (recorded_steps recorded)
    → RunsTo c ((steps ++ between) ++ eviction_of o) d → trace_in d.common ≡ take (i + 1) recorded.trace
further_trace c d recorded i number steps between o r made same run =
    let parts = run_split c d ((steps ++ between) ++ eviction_of o) (steps ++ between) (eviction_of o) refl run in
    eviction_trace parts.0 d o parts.2
    ∙ trace_through c parts.0 recorded i number (steps ++ between) r made same parts.1

-- what a run of hart steps has added, where the trace before and after it is known
added_event : (c d : Config) (trace : List Event) (event : Event) (i : ℕ) → Adds c d → trace_in c.common ≡ take i trace
    → trace_in d.common ≡ take i trace ++ event ∷ [] → persisted d.common.history ≡ steps_of event ++ persisted c.common.history
added_event c d trace event i a before after =
    let both : take i trace ++ a.more ≡ take i trace ++ event ∷ [] =
    ap (λ (t : List Event). t ++ a.more) (sym before) ∙ sym a.trace ∙ after in
    let more : a.more ≡ event ∷ [] = append_cancel_left (take i trace) a.more (event ∷ []) both in
    a.steps ∙ ap (λ (events : List Event). history events ++ persisted c.common.history) more
    ∙ ap (λ (p : List PersistenceStep). p ++ persisted c.common.history) (append-nil (steps_of event))

further_persisted : (c d : Config) (recorded : RecordedView) (k : ℕ → ℕ) (i made number many : ℕ) (event : Event) (steps : List Step) (o : Option ℕ)
    → Records c recorded → i < length recorded.trace → get_or recorded.trace i event ≡ event
    → line_due k (at_moment recorded.trace i) event ≡ o
    → FollowsFrom c recorded k i made steps → IsMadeBy c (all_steps recorded.items) i number
    → hart_steps (steps ++ take many (drop made (recorded_steps recorded))) ≡ take number (recorded_steps recorded)
    → RunsTo c ((steps ++ take many (drop made (recorded_steps recorded))) ++ eviction_of o) d
    → persisted d.common.history ≡ explained k (at_moment recorded.trace (i + 1))
further_persisted c d recorded k i made number many event steps o r there is due follows by same run =
    let between : List Step = take many (drop made (recorded_steps recorded)) in
    let parts = run_split c d ((steps ++ between) ++ eviction_of o) (steps ++ between) (eviction_of o) refl run in
    let more = run_split c parts.0 (steps ++ between) steps between refl parts.1 in
    let harts : hart_steps between ≡ between = harts_between made many (all_steps recorded.items) in
    let adds = run_adds more.0 parts.0 between (rw harts more.2) in
    let before : trace_in more.0.common ≡ take i recorded.trace = follows.trace more.0 more.1 in
    let next : take (i + 1) recorded.trace ≡ take i recorded.trace ++ event ∷ [] =
    take_more recorded.trace i event there ∙ ap (λ (e : Event). take i recorded.trace ++ e ∷ []) is in
    let after : trace_in parts.0.common ≡ take i recorded.trace ++ event ∷ [] =
    trace_through c parts.0 recorded i number (steps ++ between) r by same parts.1 ∙ next in
    let p : List PersistenceStep = at_moment recorded.trace i in
    let moment : at_moment recorded.trace (i + 1) ≡ steps_of event ++ at_moment recorded.trace i =
    history_more recorded.trace i event there ∙ ap (λ (e : Event). steps_of e ++ at_moment recorded.trace i) is in
    eviction_persisted parts.0 d o parts.2
    ∙ ap (λ (q : List PersistenceStep). evict_step o ++ q) (
    added_event more.0 parts.0 recorded.trace event i adds before after
    ∙ ap (λ (q : List PersistenceStep). steps_of event ++ q) (follows.persisted_is more.0 more.1))
    ∙ ap (λ (x : Option ℕ). evict_step x ++ (steps_of event ++ explained k (at_moment recorded.trace i))) (sym due)
    ∙ sym (explained_more k (at_moment recorded.trace i) event)
    ∙ ap (λ (q : List PersistenceStep). explained k q) (sym moment)

-- what is known before event i: the schedule follows the events so far, these steps are left, and so many stores are due
pub record IsAt (recorded : RecordedView) (k : ℕ → ℕ) (last i : ℕ) (left : StepsView) (steps : List Step) (due : List ℕ) : Type 0 where
  pub follows : Follows recorded k i left.taken steps
  pub left_is : left.left ≡ drop left.taken (recorded_steps recorded)
  pub below : left.taken ≤ last
  pub reached : min (steps_by recorded.steps i) last ≤ left.taken
  pub due_is : AreDue k (at_moment recorded.trace i) due
  pub lines : length due ≡ length recorded.start

-- one event further
pub further_steps : (recorded : RecordedView) (made many now : ℕ) (steps : List Step) → now ≡ made + many
    → hart_steps steps ≡ take made (recorded_steps recorded)
    → hart_steps (steps ++ take many (drop made (recorded_steps recorded))) ≡ take now (recorded_steps recorded)
further_steps recorded made many now steps sum same =
    hart_steps_append steps (take many (drop made (recorded_steps recorded)))
    ∙ ap (λ (l : List Step). l ++ hart_steps (take many (drop made (recorded_steps recorded)))) same
    ∙ ap (λ (l : List Step). take made (recorded_steps recorded) ++ l) (harts_between made many (all_steps recorded.items))
    ∙ sym (take_then made many (recorded_steps recorded))
    ∙ ap (λ (n : ℕ). take n (recorded_steps recorded)) (sym sum)

pub with_eviction : (steps : List Step) (o : Option ℕ) → hart_steps (steps ++ eviction_of o) ≡ hart_steps steps
with_eviction steps o =
    hart_steps_append steps (eviction_of o) ∙ ap (λ (l : List Step). hart_steps steps ++ l) (no_hart_steps o)
    ∙ append-nil (hart_steps steps)

further_in_time : (recorded : RecordedView) (k : ℕ → ℕ) (i made many number : ℕ) (event : Event) (steps : List Step) (o : Option ℕ)
    → line_due k (at_moment recorded.trace i) event ≡ o → slice_get recorded.trace i ≡ Some event → slice_get recorded.steps i ≡ Some number
    → number ≤ length (recorded_steps recorded)
    → hart_steps (steps ++ take many (drop made (recorded_steps recorded))) ≡ take number (recorded_steps recorded)
    → hart_steps steps ≡ take made (recorded_steps recorded)
    → EvictInTime recorded i k 0 steps
    → EvictInTime recorded (i + 1) k 0 ((steps ++ take many (drop made (recorded_steps recorded))) ++ eviction_of o)
further_in_time recorded k i made many number event steps o due there made_is inside same front e =
    let between : List Step = take many (drop made (recorded_steps recorded)) in
    let size : length (hart_steps (steps ++ between)) ≡ number =
    ap (λ (l : List Step). length l) same ∙ length-take-le number (recorded_steps recorded) inside in
    let harts : hart_steps between ≡ between = harts_between made many (all_steps recorded.items) in
    let alone : EvictInTime recorded (i + 1) k (length (hart_steps steps)) (take many (drop made (recorded_steps recorded))) =
    rw harts at (harts_in_time recorded k (i + 1) (length (hart_steps steps)) between) in
    longer recorded k (i + 1) 0 number (steps ++ between) (eviction_of o) (omega arith)
    (longer recorded k (i + 1) 0 (length (hart_steps steps)) steps between (omega arith) (later recorded k i 0 steps e) alone)
    (eviction_in_time recorded k i number event o due there made_is)

pub further_from : (c : Config) (recorded : RecordedView) (k : ℕ → ℕ) (last i made now : ℕ) (event : Event) (steps : List Step) (o : Option ℕ)
    → Records c recorded → length recorded.steps ≡ length recorded.trace → i < length recorded.trace
    → slice_index_or recorded.steps i 0 ≤ last → get_or recorded.trace i event ≡ event
    → line_due k (at_moment recorded.trace i) event ≡ o
    → FollowsFrom c recorded k i made steps → hart_steps steps ≡ take made (recorded_steps recorded)
    → now ≡ max made (min (slice_index_or recorded.steps i 0) last)
    → FollowsFrom c recorded k (i + 1) now ((steps ++ take (now - made) (drop made (recorded_steps recorded))) ++ eviction_of o)
further_from c recorded k last i made now event steps o r each there below is due follows same made_now =
    let number : ℕ = slice_index_or recorded.steps i 0 in
    let by = made_by c recorded i r (omega arith) in
    let next : steps_by recorded.steps (i + 1) ≡ slice_index_or recorded.steps i 0 = steps_next recorded.steps i in
    let up = steps_rise c recorded i (i + 1) r each (omega arith) (omega arith) in
    let so_far = follows.made_is in
    let reached : now ≡ slice_index_or recorded.steps i 0 = omega arith in
    let harts : hart_steps (steps ++ take (now - made) (drop made (recorded_steps recorded))) ≡ take (slice_index_or recorded.steps i 0) (recorded_steps recorded) =
    further_steps recorded made (now - made) (slice_index_or recorded.steps i 0) steps (omega arith) same in
    record {
      made_is = reached ∙ sym next;
      evictions = further_in_time recorded k i made (now - made) (slice_index_or recorded.steps i 0) event steps o due
          (slice_get-get_or recorded.trace i event there ∙ ap (λ (e : Event). Some e) is)
          (slice_get-get_or recorded.steps i 0 (omega arith))
          (number_there c (all_steps recorded.items) i (slice_index_or recorded.steps i 0) by) harts same follows.evictions;
      trace = λ d run. further_trace c d recorded i (slice_index_or recorded.steps i 0) steps
          (take (now - made) (drop made (recorded_steps recorded))) o r by harts run;
      persisted_is = λ d run. further_persisted c d recorded k i made (slice_index_or recorded.steps i 0) (now - made) event steps o
          r there is due follows by harts run;
    }

pub at_next : (recorded : RecordedView) (k : ℕ → ℕ) (moment last i number : ℕ) (old new : StepsView) (steps added after : List Step)
    (due left_due : List ℕ) (event other : Event) (o : Option ℕ) → length recorded.steps ≡ length recorded.trace
    → moment ≤ length recorded.trace → i < moment → last ≡ steps_by recorded.steps moment
    → number ≡ slice_index_or recorded.steps i 0 → event ≡ get_or recorded.trace i other
    → IsAt recorded k last i old steps due → TakesSteps old new steps added → new.taken ≡ max old.taken (min number last)
    → o ≡ line_due k (at_moment recorded.trace i) event → after ≡ added ++ eviction_of o
    → AreDue k (steps_of event ++ at_moment recorded.trace i) left_due → length left_due ≡ length due
    → IsAt recorded k last (i + 1) new after left_due
at_next recorded k moment last i number old new steps added after due left_due event other o each few early last_is number_is named at takes taken_is line evicted due_left same_lines =
    let is : get_or recorded.trace i event ≡ event = get_or_default recorded.trace i event other (omega arith) ∙ sym named in
    let taken : new.taken ≡ max old.taken (min (slice_index_or recorded.steps i 0) last) =
    taken_is ∙ ap (λ (n : ℕ). max old.taken (min n last)) number_is in
    let on = takes.on in
    let below = at.below in
    let next = steps_next recorded.steps i in
    let added_is : added ≡ steps ++ take (new.taken - old.taken) (drop old.taken (recorded_steps recorded)) =
    takes.added ∙ ap (λ (l : List Step). steps ++ take (new.taken - old.taken) l) at.left_is in
    let after_is : after ≡ (steps ++ take (new.taken - old.taken) (drop old.taken (recorded_steps recorded))) ++ eviction_of o =
    evicted ∙ ap (λ (l : List Step). l ++ eviction_of o) added_is in
    let moment_is : at_moment recorded.trace (i + 1) ≡ steps_of event ++ at_moment recorded.trace i =
    history_more recorded.trace i event (omega arith) ∙ ap (λ (e : Event). steps_of e ++ at_moment recorded.trace i) is in
    record {
      follows = record {
        hart_steps_are = ap (λ (l : List Step). hart_steps l) after_is
            ∙ with_eviction (steps ++ take (new.taken - old.taken) (drop old.taken (recorded_steps recorded))) o
            ∙ further_steps recorded old.taken (new.taken - old.taken) new.taken steps (omega arith) at.follows.hart_steps_are;
        follows = λ c start r.
            let rise = steps_rise c recorded (i + 1) moment r each (omega arith) few in
            rw after_is (further_from c recorded k last i old.taken new.taken event steps o r each (omega arith)
            (omega arith) is (sym line) (at.follows.follows c start r) at.follows.hart_steps_are taken);
      };
      left_is = takes.left ∙ ap (λ (l : List Step). drop (new.taken - old.taken) l) at.left_is
          ∙ drop-drop (new.taken - old.taken) old.taken (recorded_steps recorded)
          ∙ ap (λ (n : ℕ). drop n (recorded_steps recorded)) (let sum : old.taken + (new.taken - old.taken) ≡ new.taken = omega arith in sum);
      below = omega arith;
      reached = omega arith;
      due_is = rw moment_is due_left;
      lines = same_lines ∙ at.lines;
    }

-- before the first event
pub at_start : (recorded : RecordedView) (k : ℕ → ℕ) (last : ℕ) (left : StepsView) (steps : List Step) (due : List ℕ)
    → left.taken ≡ 0 → left.left ≡ recorded_steps recorded → steps ≡ [] → length due ≡ length recorded.start
    → ((l d : ℕ) → l < length recorded.start → slice_index_or due l d ≡ k l) → IsAt recorded k last 0 left steps due
at_start recorded k last left steps due taken left_is none lines each = record {
  follows = record {
    hart_steps_are = ap (λ (l : List Step). hart_steps l) none ∙ sym (ap (λ (n : ℕ). take n (recorded_steps recorded)) taken);
    follows = λ c start r. rw none (record {
      made_is = taken;
      evictions = tt;
      trace = λ d run. ap (λ (x : Config). trace_in x.common) run ∙ start.trace;
      persisted_is = λ d run. ap (λ (x : Config). persisted x.common.history) run
          ∙ ap (λ (entries : List Entry). persisted entries) start.history;
    });
  };
  left_is = left_is ∙ ap (λ (n : ℕ). drop n (recorded_steps recorded)) (sym taken);
  below = omega (arith, taken);
  reached = omega arith;
  due_is = record { each = λ l d inside. omega (arith, each l d (omega (arith, inside, lines))) };
  lines = lines;
}

-- after the moment's last event
pub at_end : (recorded : RecordedView) (k : ℕ → ℕ) (moment last : ℕ) (left : StepsView) (steps : List Step) (due : List ℕ)
    → last ≡ steps_by recorded.steps moment → IsAt recorded k last moment left steps due
    → Follows recorded k moment (steps_by recorded.steps moment) steps
at_end recorded k moment last left steps due last_is at =
    let below = at.below in
    let reached = at.reached in
    let all : left.taken ≡ steps_by recorded.steps moment = omega arith in
    rw all at at.follows
