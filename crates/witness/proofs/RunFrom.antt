-- Runs by the first hart steps of a recorded run, and the numbers of its events.
use Rattle.std.proofs.Common.{◌≡◌, ℕ, ◌+◌, ◌-◌, ◌<◌, ◌≤◌, List, [], ◌∷◌, ◌++◌, length, take, drop, refl, sym, ap, ◌∙◌, inl, inr, arith, append_assoc}
use Rattle.std.proofs.lemmas.Bool.{cases_lt}
use Rattle.std.proofs.lemmas.List.{length-append, length-take-le, take-append-drop, take_at}
use Rattle.store_trace.specs.declared.event.Event.{Event}
use Rattle.machine.specs.Steps.{all_steps}
use Rattle.machine.specs.declared.schedule.items.Step.{Step}
use Rattle.machine.specs.declared.schedule.items.Step.TheVariants.{Hart}
use Rattle.machine.specs.Replies.{trace_in}
use Rattle.machine.specs.Evicting.{hart_steps}
use Rattle.machine.specs.Recorded.{IsMadeBy, RecordedView, Records}
use Rattle.machine.specs.Run.{Config, RunsTo}
use Rattle.machine.proofs.Determined.{runs_once}
use Rattle.machine.proofs.Evicting.{alike_itself, runs_alike, trace_alike}
use Rattle.machine.proofs.RunParts.{run_grows, run_joined, run_parted}
use Rattle.witness.proofs.Lists.{hart_steps_append, harts_of_harts, harts_taken, take_then}

-- the hart steps of the recorded schedule
abbrev pub recorded_steps : RecordedView → List Step
recorded_steps recorded = hart_steps (all_steps recorded.items)

pub run_split : (c d : Config) (steps first others : List Step) → steps ≡ first ++ others → RunsTo c steps d
    → (m : Config) × RunsTo c first m × RunsTo m others d
run_split c d steps first others e run = run_parted c d first others (rw e at run)

parted_at : (c d : Config) (n : ℕ) (steps : List Step) → RunsTo c steps d → (m : Config) × RunsTo c (take n steps) m × RunsTo m (drop n steps) d
parted_at c d n steps run = run_parted c d (take n steps) (drop n steps) (rw (take-append-drop n steps) run)

-- there is such a run
pub first_runs : (c : Config) (recorded : RecordedView) (n : ℕ) (steps : List Step) → Records c recorded
    → hart_steps steps ≡ take n (recorded_steps recorded) → (d : Config) × RunsTo c steps d
first_runs c recorded n steps r same =
    let whole = runs_alike c c r.end (all_steps recorded.items) (recorded_steps recorded) (alike_itself c)
    (sym (harts_of_harts (all_steps recorded.items))) r.runs in
    let front = parted_at c whole.0 n (recorded_steps recorded) whole.1 in
    let mine = runs_alike c c front.0 (take n (recorded_steps recorded)) steps (alike_itself c)
    (harts_taken n (all_steps recorded.items) ∙ sym same) front.1 in
    (mine.0, mine.1)

-- the hart steps through the one that makes an event
pub through_event : (c : Config) (steps : List Step) (i n : ℕ) (m : IsMadeBy c steps i n)
    → hart_steps (m.before ++ Hart m.hart ∷ []) ≡ take n (hart_steps steps)
through_event c steps i n m =
    let front : List Step = m.before ++ Hart m.hart ∷ [] in
    let split : steps ≡ front ++ m.after = m.split ∙ sym (append_assoc m.before (Hart m.hart ∷ []) m.after) in
    let all : hart_steps steps ≡ hart_steps front ++ hart_steps m.after =
    ap (λ (l : List Step). hart_steps l) split ∙ hart_steps_append front m.after in
    let size : length (hart_steps front) ≡ n =
    ap (λ (l : List Step). length l) (hart_steps_append m.before (Hart m.hart ∷ []))
    ∙ length-append (hart_steps m.before) (Hart m.hart ∷ []) ∙ sym m.number in
    sym (ap (λ (l : List Step). take n l) all ∙ take_at (hart_steps front) (hart_steps m.after) n size)

-- a number is of a hart step that is there
pub number_there : (c : Config) (steps : List Step) (i n : ℕ) → IsMadeBy c steps i n → n ≤ length (hart_steps steps)
number_there c steps i n m =
    let all = ap (λ (l : List Step). length (hart_steps l)) m.split in
    let sum = ap (λ (l : List Step). length l) (hart_steps_append m.before (Hart m.hart ∷ m.after)) in
    let parts = length-append (hart_steps m.before) (Hart m.hart ∷ hart_steps m.after) in
    let number = m.number in
    omega arith

-- after these hart steps, with any evictions between them, the trace has the events through that one
pub trace_through : (c d : Config) (recorded : RecordedView) (i n : ℕ) (steps : List Step) → Records c recorded
    → IsMadeBy c (all_steps recorded.items) i n → hart_steps steps ≡ take n (recorded_steps recorded) → RunsTo c steps d
    → trace_in d.common ≡ take (i + 1) recorded.trace
trace_through c d recorded i n steps r m same run =
    let front : List Step = m.before ++ Hart m.hart ∷ [] in
    let there : RunsTo c front m.new = run_joined c m.old m.new m.before (Hart m.hart ∷ []) m.runs (m.new, m.makes, refl) in
    let mine = runs_alike c c m.new front steps (alike_itself c) (through_event c (all_steps recorded.items) i n m ∙ sym same) there in
    let is : d ≡ mine.0 = runs_once c steps d mine.0 run mine.1 in
    let split : all_steps recorded.items ≡ front ++ m.after = m.split ∙ sym (append_assoc m.before (Hart m.hart ∷ []) m.after) in
    let parts = run_parted c r.end front m.after (rw split at r.runs) in
    let middle : parts.0 ≡ m.new = runs_once c front parts.0 m.new parts.1 there in
    let more = run_grows parts.0 r.end m.after parts.2 in
    let trace : recorded.trace ≡ trace_in m.new.common ++ more.0 =
    r.trace ∙ more.1 ∙ ap (λ (x : Config). trace_in x.common ++ more.0) middle in
    ap (λ (x : Config). trace_in x.common) is ∙ sym (trace_alike m.new mine.0 mine.2)
    ∙ sym (ap (λ (t : List Event). take (i + 1) t) trace ∙ take_at (trace_in m.new.common) more.0 (i + 1) m.event)

-- later events have higher numbers
numbers_part : (c : Config) (recorded : RecordedView) (i j n m : ℕ) → Records c recorded → IsMadeBy c (all_steps recorded.items) i n
    → IsMadeBy c (all_steps recorded.items) j m → i < length recorded.trace → j < length recorded.trace → m ≤ n → j ≤ i
numbers_part c recorded i j n m r a b early late less =
    let all : List Step = recorded_steps recorded in
    let run = first_runs c recorded n (take n all) r (harts_taken n (all_steps recorded.items)) in
    let sum : n ≡ m + (n - m) = omega arith in
    let whole : take n all ≡ take m all ++ take (n - m) (drop m all) =
    ap (λ (k : ℕ). take k all) sum ∙ take_then m (n - m) all in
    let parts = run_split c run.0 (take n all) (take m all) (take (n - m) (drop m all)) whole run.1 in
    let last : trace_in run.0.common ≡ take (i + 1) recorded.trace =
    trace_through c run.0 recorded i n (take n all) r a (harts_taken n (all_steps recorded.items)) run.1 in
    let first : trace_in parts.0.common ≡ take (j + 1) recorded.trace =
    trace_through c parts.0 recorded j m (take m all) r b (harts_taken m (all_steps recorded.items)) parts.1 in
    let more = run_grows parts.0 run.0 (take (n - m) (drop m all)) parts.2 in
    let sizes = ap (λ (t : List Event). length t) more.1 in
    let both = length-append (trace_in parts.0.common) more.0 in
    let long = ap (λ (t : List Event). length t) last ∙ length-take-le (i + 1) recorded.trace (omega arith) in
    let short = ap (λ (t : List Event). length t) first ∙ length-take-le (j + 1) recorded.trace (omega arith) in
    omega arith

pub numbers_rise : (c : Config) (recorded : RecordedView) (i j n m : ℕ) → Records c recorded → IsMadeBy c (all_steps recorded.items) i n
    → IsMadeBy c (all_steps recorded.items) j m → j < length recorded.trace → i < j → n ≤ m
numbers_rise c recorded i j n m r a b late less = elim (cases_lt m n) [
  | inl lower ↦ absurd (
      let up = numbers_part c recorded i j n m r a b (omega arith) late (omega arith) in omega arith)
  | inr higher ↦ higher
]
