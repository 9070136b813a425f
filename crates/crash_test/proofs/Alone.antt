-- What one hart of a setup has made alone.
use Rattle.std.proofs.Common.{◌≡◌, ℕ, ◌<◌, ◌≤◌, List, [], ◌∷◌, Some, length, replicate, slice_get, refl, sym, ap, subst, ◌∙◌, inl, inr, arith}
use Rattle.std.proofs.lemmas.List.{append-nil, length-replicate, take-replicate}
use Rattle.std.proofs.lemmas.List.FromFn.{length-map-range_with_len}
use Rattle.std.proofs.lemmas.Option.{slice_get_within}
use Rattle.bus.proofs.Following.{count_own}
use Rattle.bus.specs.Limits.{AreWithin}
use Rattle.bus.specs.Together.{count_of}
use Rattle.hart.specs.declared.state.HartState.{HartState}
use Rattle.machine.specs.Left.{IsLeftBy}
use Rattle.hart.specs.Effect.{start}
use Rattle.machine.specs.Refusals.{Refuses}
use Rattle.machine.specs.Run.{RunsTo}
use Rattle.machine.specs.Represents.{IsRunning}
use Rattle.machine.specs.declared.fault.RunStop.{RunStop}
use Rattle.machine.specs.Recorded.{FailsToRecord, HasGoneOn, IsRefused, RecordedView, Records, StopsRecording}
use Rattle.machine.proofs.Places.{step_here}
use Rattle.machine.specs.Grammar.{hart_steps}
use Rattle.machine.specs.Places.{steps_before}
use Rattle.machine.specs.Steps.{all_steps}
use Rattle.machine.specs.declared.schedule.items.Item.{Item}
use Rattle.machine.specs.declared.schedule.items.Item.TheVariants.{Steps}
use Rattle.machine.specs.declared.schedule.items.Step.{Step}
use Rattle.machine.specs.declared.schedule.items.Step.TheVariants.{Hart}
use Rattle.machine.specs.declared.shared_memory.fault.StepFault.{StepFault}
use Rattle.machine.specs.declared.shared_memory.fault.StepFault.TheVariants.{NoSuchHart, NoSuchLine, TraceFull, Memory, OutOfLimits}
use Rattle.crash_test.proofs.Together.{hart_count_of}
use Rattle.crash_test.specs.Runs.{FailsTogether, FillsTrace, HasRunTogether, HaveMadeAll, HaveMadeAtMost, StopsHarts}
use Rattle.machine.specs.RunValues.{IsLeftOf, start_of}
use Rattle.machine.specs.declared.recording.setup.Setup.{Setup}
use Rattle.crash_test.specs.declared.runs.TogetherFault.TheVariants as together

-- all steps of the schedule are the hart's
all_counted : (items : List Item) (made : ℕ) → items ≡ Steps 0 made ∷ [] → count_of 0 (all_steps items) ≡ made
all_counted items made are =
    ap (λ (l : List Item). count_of 0 (all_steps l)) are
    ∙ ap (λ (l : List Step). count_of 0 l) (append-nil (replicate made (Hart 0)))
    ∙ count_own 0 made

-- there is no other
is_first : (harts : List HartState) (h : ℕ) (s : HartState) → length harts ≡ 1 → slice_get harts h ≡ Some s → h ≡ 0
is_first harts h s one there = let inside = slice_get_within harts h s there in omega arith

most_alone : (s : Setup) (steps : ℕ) (recorded : RecordedView) → length recorded.harts ≡ 1 → HasGoneOn (start_of s) steps recorded
    → HaveMadeAtMost steps recorded
most_alone s steps recorded one went h state there =
    let all = all_counted recorded.items went.made went.items in
    let most = went.most_made in
    rw (is_first recorded.harts h state one there) (omega arith)

all_alone : (s : Setup) (steps : ℕ) (recorded : RecordedView) → length recorded.harts ≡ 1 → HasGoneOn (start_of s) steps recorded
    → HaveMadeAll steps recorded
all_alone s steps recorded one went h state there running =
    let first = is_first recorded.harts h state one there in
    let there_too : slice_get recorded.harts 0 ≡ Some state = rw first at there in
    let runs : IsRunning (slice_get recorded.harts 0) = rw there_too running in
    rw first (all_counted recorded.items went.made went.items ∙ went.ended runs)

pub has_run_alone : (s : Setup) (steps : ℕ) (recorded : RecordedView) → AreWithin s.harts s.capacity steps → s.harts ≡ 1
    → Records (start_of s) recorded → recorded.start ≡ s.medium → recorded.capacity ≡ s.capacity → HasGoneOn (start_of s) steps recorded
    → HasRunTogether s steps recorded
has_run_alone s steps recorded w one records start capacity went =
    let count = hart_count_of s recorded records in
    record {
      within = w.0;
      some_steps = w.1;
      few_steps = w.2;
      start = start;
      capacity = capacity;
      count = count;
      records = records;
      most = most_alone s steps recorded (count ∙ one) went;
      ended = all_alone s steps recorded (count ∙ one) went;
    }

pub left_alone : (s : Setup) (recorded : RecordedView) → recorded.capacity ≡ s.capacity
    → IsLeftBy (start_of s) (all_steps recorded.items) recorded.capacity recorded.left → IsLeftOf s recorded.items recorded.left
left_alone s recorded capacity left = subst (λ (n : ℕ). IsLeftBy (start_of s) (all_steps recorded.items) n recorded.left) capacity left

-- few enough to be counted
pub few_alone : (s : Setup) (steps : ℕ) (recorded : RecordedView) → steps ≤ 500000000 → HasGoneOn (start_of s) steps recorded
    → hart_steps recorded.items ≤ 500000000
few_alone s steps recorded few went = let most = went.most_made in rw went.items (omega arith)

-- the steps before one of the hart's
own_before : (most k : ℕ) → k < most → steps_before (Steps 0 most ∷ []) 0 k ≡ replicate k (Hart 0)
own_before most k inside = take-replicate k most (Hart 0) (omega arith)

-- what stands where a step of the hart is refused
module _ (s : Setup) (most : ℕ) (stop : RunStop) (one : s.harts ≡ 1) (refused : IsRefused (start_of s) (length s.medium) (Steps 0 most ∷ []) stop)
    (first : stop.place.item ≡ 0) (inside : stop.place.steps < most) where
  fills : Refuses refused.new (Hart 0) TraceFull → FillsTrace s most
  fills full =
      let reached = refused.stops.runs.represents (start_of s) refused.represents in
      let its = count_own 0 stop.place.steps in
      let before : steps_before (Steps 0 most ∷ []) stop.place.item stop.place.steps ≡ replicate stop.place.steps (Hart 0) =
      rw first (own_before most stop.place.steps inside) in
      record {
        made = replicate stop.place.steps (Hart 0);
        end = reached.0;
        run = subst (λ (l : List Step). RunsTo (start_of s) l reached.0) before reached.1;
        full = ap length (sym reached.2.shared.trace) ∙ full.1;
        most = λ h below.
            let only : h ≡ 0 = omega (arith, below, one) in
            rw only (omega (arith, its, inside));
        hart = 0;
        running = subst (λ (l : List HartState). IsRunning (slice_get l 0)) reached.2.harts full.0.running;
        left = omega (arith, its, inside);
      }

  -- the hart is there
  there_is : Refuses refused.new (Hart 0) NoSuchHart → ⊥
  there_is lacks =
      let count : length refused.old.harts ≡ s.harts =
      ap (λ (l : List HartState). length l) refused.represents.harts ∙ length-map-range_with_len start 0 s.harts in
      let same = refused.stops.runs.harts in
      omega (arith, count, same, one, lacks)

  stops_hart : (fault : StepFault) → Refuses refused.new (Hart 0) fault → StopsHarts s most fault
  stops_hart NoSuchHart lacks = there_is lacks
  stops_hart NoSuchLine lacks = absurd lacks
  stops_hart TraceFull full = fills full
  stops_hart OutOfLimits lacks = absurd lacks
  stops_hart Memory lacks = tt

stops_next : (s : Setup) (most : ℕ) (stop : RunStop) → s.harts ≡ 1 → IsRefused (start_of s) (length s.medium) (Steps 0 most ∷ []) stop
    → StopsHarts s most stop.fault
stops_next s most stop one refused =
    let item = refused.stops.item in
    let first : stop.place.item ≡ 0 = omega arith in
    let fits : stop.place.steps < length (replicate most (Hart 0)) = rw first at refused.stops.steps in
    let inside : stop.place.steps < most = rw length-replicate at fits in
    let here = step_here (Steps 0 most ∷ []) 0 (Hart 0) most refl stop.place.steps inside in
    stops_hart s most stop one refused first inside stop.fault (rw (first, here) at refused.stops.refused)

stops_so : (s : Setup) (most : ℕ) (stop : RunStop) → s.harts ≡ 1 → StopsRecording (start_of s) (length s.medium) (Steps 0 most ∷ []) stop
    → StopsHarts s most stop.fault
stops_so s most stop one stops = elim stops.reason [
  | inl memory ↦ subst (StopsHarts s most) (sym memory) tt
  | inr refused ↦ stops_next s most stop one refused
]

pub fails_alone : (s : Setup) (steps : ℕ) (stop : RunStop) → AreWithin s.harts s.capacity steps → s.harts ≡ 1
    → FailsToRecord (start_of s) s.harts s.capacity (length s.medium) (Steps 0 steps ∷ []) stop → FailsTogether s steps (together.Step stop.fault)
fails_alone s steps stop within one (inl outside) = inl (inl outside.0)
fails_alone s steps stop within one (inr stops) = inr (within, stops_so s steps stop one stops.1)
