-- The steps of one hart, one after another.
use Rattle.std.proofs.Common.{◌≡◌, ◌≢◌, ℕ, zero, suc, ◌+◌, ◌-◌, ◌%◌, ◌<◌, ◌≤◌, ◌^◌, List, [], ◌∷◌, ◌++◌, length, replicate, drop, Option, Some, None, true, false, slice_get, refl, sym, ap, subst, ◌∙◌, inl, inr, arith}
use Rattle.std.proofs.lemmas.Bool.{cases_lt}
use Rattle.std.proofs.lemmas.List.{append-nil, length-append, replicate-append-replicate, replicate_more, take-append-drop, take-replicate}
use Rattle.hart.specs.declared.state.HartState.{HartState}
use Rattle.hart.specs.declared.state.Status.{Status}
use Rattle.hart.specs.declared.state.Status.TheVariants.{Running, Exited, Trapped}
use Rattle.machine.proofs.Counting.{all_counted}
use Rattle.machine.proofs.Determined.{runs_once}
use Rattle.machine.proofs.RunParts.{run_parted}
use Rattle.machine.specs.Represents.{IsRunning, MachineView, Runs, RunsBoth}
use Rattle.machine.specs.Run.{RunsTo}
use Rattle.machine.specs.Stops.{has_stopped, is_stopped}
use Rattle.machine.specs.Rows.{EndsByEventOf, RunsBeforeEach}
use Rattle.machine.specs.Traced.{steps_alone}
use Rattle.machine.specs.TracerLaws.{makes_more, passed_is}
use Rattle.machine.proofs.Tracing.{continues_event, tells_none}
use Rattle.machine.specs.RunLaws.{both_more}
use Rattle.machine.specs.declared.run_trace.traced_event.EventPlace.{EventPlace}
use Rattle.machine.specs.Tracers.{Continues, IsHeld, Makes, TracerView, passed_all}
use Rattle.std.proofs.Math.Nat.{mod-eq_of_lt}
use Rattle.machine.proofs.Places.{step_here}
use Rattle.machine.specs.Places.{Leads}
use Rattle.machine.specs.Walks.{HaltsAt}
use Rattle.machine.specs.declared.schedule.items.Step.{Step}
use Rattle.machine.specs.declared.schedule.items.Step.TheVariants.{Hart}
use Rattle.machine.specs.declared.shared_memory.fault.StepFault.{StepFault}
use Rattle.store_trace.specs.declared.event.Event.{Event}

-- the first ones of the hart's steps
leads_alone : (h most made : ℕ) → made ≤ most
    → Leads (steps_alone h most) (record { item = 0; steps = 0 }) (record { item = 0; steps = made }) (replicate made (Hart h))
leads_alone h most made few =
    let all : List Step = replicate most (Hart h) in
    record {
      before = take-replicate made most (Hart h) few;
      after = append-nil all
          ∙ sym (take-append-drop made all)
          ∙ ap (λ (l : List Step). l ++ drop made all) (take-replicate made most (Hart h) few)
          ∙ ap (λ (l : List Step). replicate made (Hart h) ++ l) (sym (append-nil (drop made all)));
    }

-- one step more
pub makes_one_more : (old middle new : TracerView) (h made : ℕ) → Makes old (replicate made (Hart h)) middle → Makes middle (Hart h ∷ []) new
    → Makes old (replicate (made + 1) (Hart h)) new
makes_one_more old middle new h made a b =
    subst (λ (steps : List Step). Makes old steps new) (replicate_more made (Hart h)) (makes_more old middle new (replicate made (Hart h)) (Hart h ∷ []) a b)

-- they can be counted
pub continues_alone : (old new : TracerView) (h made : ℕ) → old.made ≡ 0 → made < 2 ^ 32 → Makes old (replicate made (Hart h)) new
    → Continues old new (replicate made (Hart h))
continues_alone old new h made none small makes =
    let all = all_counted made h in
    let sum = passed_is old.made (replicate made (Hart h)) in
    makes (omega arith)

-- the next one is refused
pub halts_alone : (old middle new : TracerView) (h most made : ℕ) (fault : StepFault) → made < most
    → Makes old (replicate made (Hart h)) middle → IsHeld middle (Hart h) new fault
    → HaltsAt Makes IsHeld old new (steps_alone h most) (record { item = 0; steps = 0 }) (record { item = 0; steps = made }) fault
halts_alone old middle new h most made fault fits makes held = record {
  middle = middle;
  step = Hart h;
  before = record { steps = replicate made (Hart h); leads = leads_alone h most made (omega arith); made = makes };
  here = step_here (steps_alone h most) 0 (Hart h) most refl made fits;
  halted = held;
}

-- a hart that is there and hasn't stopped runs
status_runs : (status : Status) → has_stopped status ≡ false → status ≡ Running
status_runs Running not = refl
status_runs (Exited code) not = cc
status_runs (Trapped trap) not = cc

runs_there : (harts : List HartState) (h : ℕ) → h < length harts → is_stopped (slice_get harts h) ≡ false → IsRunning (slice_get harts h)
runs_there [] h inside not = absurd (omega arith)
runs_there (s ∷ harts) zero inside not = status_runs s.status not
runs_there (s ∷ harts) (suc h) inside not = runs_there harts h (omega arith) not

pub stopped_runs_not : (o : Option HartState) → is_stopped o ≡ true → IsRunning o → ⊥
stopped_runs_not None stopped running = running
stopped_runs_not (Some s) stopped running = let false_is_true = rw running at stopped in cc

-- it runs before one step more
pub running_more : (old middle new : TracerView) (h made : ℕ) → old.made ≡ 0 → made + 1 < 2 ^ 32 → RunsBeforeEach old.machine h made
    → Makes old (replicate made (Hart h)) middle → is_stopped (slice_get middle.machine.harts h) ≡ false → Makes middle (Hart h ∷ []) new
    → RunsBeforeEach old.machine h (made + 1)
running_more old middle new h made none small before makes not next k c d fits stands run = elim (cases_lt k made) [
  | inl less ↦ before k c d less stands run
  | inr past ↦
      let last : k ≡ made = omega arith in
      let continues = continues_alone old middle h made none (omega arith) makes in
      let all = all_counted made h in
      let sum = passed_is old.made (replicate made (Hart h)) in
      let count = continues.made in
      let step : Continues middle new (Hart h ∷ []) = next (omega arith) in
      let inside : h < length middle.machine.harts = step.runs.there 0 (Hart h) (omega arith) in
      let after = continues.runs.represents c stands in
      let there : RunsTo c (replicate made (Hart h)) d = rw last at run in
      let same : d ≡ after.0 = runs_once c (replicate made (Hart h)) d after.0 there after.1 in
      rw (same, ← after.2.harts) (runs_there middle.machine.harts h inside not)
]

-- several steps more
pub makes_more_alone : (old middle new : TracerView) (h made more : ℕ) → Makes old (replicate made (Hart h)) middle
    → Makes middle (replicate more (Hart h)) new → Makes old (replicate (made + more) (Hart h)) new
makes_more_alone old middle new h made more a b =
    subst (λ (steps : List Step). Makes old steps new) (replicate-append-replicate made more (Hart h))
    (makes_more old middle new (replicate made (Hart h)) (replicate more (Hart h)) a b)

-- it runs before several steps more
pub running_further : (old middle : MachineView) (h made more : ℕ) → RunsBeforeEach old h made → Runs old middle (replicate made (Hart h))
    → RunsBeforeEach middle h more → RunsBeforeEach old h (made + more)
running_further old middle h made more before runs others k c d fits stands run = elim (cases_lt k made) [
  | inl less ↦ before k c d less stands run
  | inr past ↦
      let left : ℕ = k - made in
      let all : k ≡ made + left = omega arith in
      let after = runs.represents c stands in
      let split : RunsTo c (replicate made (Hart h) ++ replicate left (Hart h)) d =
      subst (λ (steps : List Step). RunsTo c steps d) (sym (replicate-append-replicate made left (Hart h))) (rw all at run) in
      let parts = run_parted c d (replicate made (Hart h)) (replicate left (Hart h)) split in
      let same : parts.0 ≡ after.0 = runs_once c (replicate made (Hart h)) parts.0 after.0 parts.1 after.1 in
      others left after.0 d (omega arith) after.2 (rw same at parts.2)
]

pub running_on : (old middle : TracerView) (h made more : ℕ) → old.made ≡ 0 → made < 2 ^ 32 → RunsBeforeEach old.machine h made
    → Makes old (replicate made (Hart h)) middle → RunsBeforeEach middle.machine h more → RunsBeforeEach old.machine h (made + more)
running_on old middle h made more none small before makes others =
    running_further old.machine middle.machine h made more before (continues_alone old middle h made none small makes).runs others

-- both ways, several steps more
pub both_further : (old middle new : MachineView) (h made more : ℕ) → RunsBoth old middle (replicate made (Hart h))
    → RunsBoth middle new (replicate more (Hart h)) → RunsBoth old new (replicate (made + more) (Hart h))
both_further old middle new h made more a b =
    subst (λ (steps : List Step). RunsBoth old new steps) (replicate-append-replicate made more (Hart h))
    (both_more old middle new (replicate made (Hart h)) (replicate more (Hart h)) a b)

-- steps that make no event
pub makes_quietly : (old new : TracerView) (h n : ℕ) → RunsBoth old.machine new.machine (replicate n (Hart h))
    → new.machine.shared.trace ≡ old.machine.shared.trace → new.made ≡ (old.made + n) % 2 ^ 32 → new.places ≡ old.places
    → Makes old (replicate n (Hart h)) new
makes_quietly old new h n runs same made places few =
    let count : old.made + n < 2 ^ 32 = rw (passed_is, all_counted) at few in
    let all : passed_all old.made (replicate n (Hart h)) ≡ old.made + n = rw (passed_is, all_counted) refl in
    let trace = ap (λ (events : List Event). length events) same in
    record {
      runs = runs.runs;
      exact = runs.exact;
      made = made ∙ mod-eq_of_lt count ∙ sym all;
      tells = tells_none old new (replicate n (Hart h)) runs.runs (omega arith) places;
    }

-- a row of steps whose last one makes an event
pub makes_row : {p : EventPlace} (old new : TracerView) (h n pc : ℕ) → new.places ≡ old.places ++ p ∷ [] → EndsByEventOf old.machine h n pc new.machine
    → p.pc ≡ pc → p.step ≡ (old.made + n) % 2 ^ 32 → new.made ≡ (old.made + n) % 2 ^ 32 → Makes old (replicate n (Hart h)) new
makes_row {p} old new h n pc places row told number made few =
    let all : old.made + n < 2 ^ 32 = rw (passed_is, all_counted) at few in
    let count = row.all in
    let between : TracerView = record { machine = row.middle; made = (old.made + row.quiet) % 2 ^ 32; places = old.places } in
    let before = makes_quietly old between h row.quiet row.before row.same refl refl in
    let small : old.made + row.quiet < 2 ^ 32 = omega arith in
    let so_far : between.made ≡ old.made + row.quiet = mod-eq_of_lt small in
    let numbered : p.step ≡ between.made + 1 = number ∙ mod-eq_of_lt all ∙ omega arith in
    let counted : new.made ≡ between.made + 1 = made ∙ mod-eq_of_lt all ∙ omega arith in
    let size = ap (λ (events : List Event). length events) row.longer.trace ∙ length-append row.middle.shared.trace (row.longer.event ∷ []) in
    let longer : length new.machine.shared.trace ≢ length row.middle.shared.trace = λ same. omega arith in
    let last : Makes between (Hart h ∷ []) new =
    λ fits. continues_event between new h row.state p row.last.runs row.last.exact row.there (told ∙ row.pc_is) numbered counted longer places in
    let whole : Makes old (replicate (row.quiet + 1) (Hart h)) new = makes_one_more old between new h row.quiet before last in
    let as_many : Makes old (replicate n (Hart h)) new = subst (λ (k : ℕ). Makes old (replicate k (Hart h)) new) (sym count) whole in
    as_many few
