-- What harts that ran together have made of a setup.
use Rattle.std.proofs.Common.{◌≡◌, ℕ, zero, suc, ◌+◌, ◌<◌, ◌≤◌, List, [], ◌∷◌, Option, Some, None, length, map, slice_get, refl, sym, ap, subst, ◌∙◌, inl, inr, arith}
use Rattle.std.proofs.Math.ListN.{length-set}
use Rattle.std.proofs.lemmas.List.FromFn.{length-map-range_with_len}
use Rattle.std.proofs.lemmas.Option.{slice_get_within}
use Rattle.std.specs.List.{range_with_len}
use Rattle.bus.specs.Ending.{HasTooLarge, HasTwice, LacksSeat}
use Rattle.bus.specs.Limits.{AreWithin}
use Rattle.bus.specs.Seats.{SeatView}
use Rattle.bus.specs.Starting.{AreAtStart, seat_at_start}
use Rattle.bus.specs.Stepping.{BusView}
use Rattle.bus.specs.Together.{FillsTrace as FillsBus, HaveRun, RefusesFinish, RefusesRun, StopsHarts as StopsSeats}
use Rattle.bus.specs.declared.finish_fault.FinishFault.{FinishFault}
use Rattle.bus.specs.declared.finish_fault.FinishFault.TheVariants as finish
use Rattle.bus.specs.declared.together.RunFault.TheVariants as run_faults
use Rattle.hart.specs.Effect.{start}
use Rattle.hart.specs.declared.need.Need.{Need}
use Rattle.hart.specs.declared.need.Need.TheVariants.{Local, Ask, Stop}
use Rattle.hart.specs.declared.state.HartState.{HartState}
use Rattle.hart.specs.declared.state.Status.{Status}
use Rattle.hart.specs.declared.state.Status.TheVariants.{Running, Exited, Trapped}
use Rattle.machine.specs.Replies.{trace_in}
use Rattle.machine.proofs.Determined.{runs_once}
use Rattle.machine.specs.Left.{IsLeftBy}
use Rattle.machine.specs.Run.{Config, HartSteps, HartStepsIfThere, Meets, RunsTo, fetched_by}
use Rattle.machine.specs.Represents.{MachineView}
use Rattle.machine.specs.Recorded.{RecordedView, Records}
use Rattle.machine.specs.Steps.{all_steps}
use Rattle.machine.specs.declared.schedule.items.Step.{Step}
use Rattle.machine.specs.declared.schedule.items.Step.TheVariants.{Hart, Evict}
use Rattle.machine.specs.declared.shared_memory.fault.StepFault.{StepFault}
use Rattle.machine.specs.declared.shared_memory.fault.StepFault.TheVariants as step_faults
use Rattle.crash_test.specs.Runs.{FailsTogether, FillsTrace, HasRun, HasRunTogether, HaveMadeAll, HaveMadeAtMost, IsRunOf, IsUnfinished, StopsHarts, unfinished_of}
use Rattle.machine.specs.RunValues.{AreThere, IsLeftOf, start_of}
use Rattle.machine.specs.declared.recording.setup.Setup.{Setup}
use Rattle.crash_test.specs.declared.runs.TogetherFault.{TogetherFault}

-- a run has as many harts at its end as at its start
meets_count : (c d : Config) (h : ℕ) (s : HartState) (word : Option ℕ) (need : Need) → Meets c h s word need d
    → length d.harts ≡ length c.harts
meets_count c d h s word (Local after) m = rw m (length-set c.harts h _)
meets_count c d h s word (Stop trap) m = rw m (length-set c.harts h _)
meets_count c d h s word (Ask request) m = rw m.2 (length-set c.harts h _)

hart_count : (c d : Config) (h : ℕ) (s : HartState) (status : Status) → HartSteps c h s status d → length d.harts ≡ length c.harts
hart_count c d h s Running x = meets_count c d h s (fetched_by c h s.pc) x.0 x.2
hart_count c d h s (Exited code) x = rw x refl
hart_count c d h s (Trapped trap) x = rw x refl

there_count : (c d : Config) (h : ℕ) (o : Option HartState) → HartStepsIfThere c h o d → length d.harts ≡ length c.harts
there_count c d h None x = absurd x
there_count c d h (Some s) x = hart_count c d h s s.status x

run_count : (c d : Config) (steps : List Step) → RunsTo c steps d → length d.harts ≡ length c.harts
run_count c d [] x = rw x refl
run_count c d (Hart h ∷ steps) x = run_count x.0 d steps x.2 ∙ there_count c x.0 h (slice_get c.harts h) x.1
run_count c d (Evict line ∷ steps) x = run_count x.0 d steps x.2 ∙ rw x.1 refl

-- what stands at a place of the seats at the start
at_place : (f : ℕ → SeatView) (k n i : ℕ) (s : SeatView) → slice_get (map f (range_with_len k n)) i ≡ Some s → s ≡ f (k + i)
at_place f k zero i s got = absurd (cc)
at_place f k (suc n) zero s got =
    let same : f k ≡ s = cc in sym same ∙ ap f (omega arith)
at_place f k (suc n) (suc i) s got = at_place f (k + 1) n i s got ∙ ap f (omega arith)

there_is : (f : ℕ → SeatView) (k n i : ℕ) → i < n → slice_get (map f (range_with_len k n)) i ≡ Some (f (k + i))
there_is f k zero i below = absurd (omega arith)
there_is f k (suc n) zero below = ap (λ (j : ℕ). Some (f j)) (omega arith)
there_is f k (suc n) (suc i) below = there_is f (k + 1) n i (omega arith) ∙ ap (λ (j : ℕ). Some (f j)) (omega arith)

-- the setup's bus
abbrev bus_of : Setup → BusView
bus_of s = record { program = s.program; start = s.medium; harts = s.harts; capacity = s.capacity }

-- each seat's number is its place, and its budget is as large as all others'
seat_of : (s : Setup) (steps : ℕ) (seats : List SeatView) (start : AreAtStart s.program s.medium s.harts steps seats)
    → (at : ℕ) (seat : SeatView) → slice_get seats at ≡ Some seat → (seat.hart ≡ at) × (seat.budget ≡ steps)
seat_of s steps seats start at seat got =
    let f : ℕ → SeatView = seat_at_start s.program.text steps start.copy in
    let same : seat ≡ f (0 + at) = at_place f 0 s.harts at seat (rw start.seats_are at got) in
    (ap (λ (v : SeatView). v.hart) same ∙ omega arith, ap (λ (v : SeatView). v.budget) same)

count_of_seats : (s : Setup) (steps : ℕ) (seats : List SeatView) → AreAtStart s.program s.medium s.harts steps seats
    → length seats ≡ s.harts
count_of_seats s steps seats start =
    ap (λ (l : List SeatView). length l) start.seats_are ∙ length-map-range_with_len (seat_at_start s.program.text steps start.copy) 0 s.harts

-- there are one to eight seats
pub some_seats : (s : Setup) (steps : ℕ) (seats : List SeatView) → AreAtStart s.program s.medium s.harts steps seats
    → AreWithin s.harts s.capacity steps → (1 ≤ length seats) × (length seats ≤ 8)
some_seats s steps seats start within = rw (count_of_seats s steps seats start) (within.0.some_harts, within.0.few_harts)

-- no hart lacks a seat
none_lacks : (s : Setup) (steps : ℕ) (seats : List SeatView) → AreAtStart s.program s.medium s.harts steps seats → LacksSeat s.harts seats → ⊥
none_lacks s steps seats start lacks =
    let f : ℕ → SeatView = seat_at_start s.program.text steps start.copy in
    let there : slice_get seats lacks.0 ≡ Some (f (0 + lacks.0)) = rw start.seats_are (there_is f 0 s.harts lacks.0 lacks.1) in
    lacks.2 lacks.0 (f (0 + lacks.0)) there (omega arith)

none_twice : (s : Setup) (steps : ℕ) (seats : List SeatView) → AreAtStart s.program s.medium s.harts steps seats → HasTwice seats → ⊥
none_twice s steps seats start twice =
    let one = seat_of s steps seats start twice.one twice.at_one twice.first in
    let other = seat_of s steps seats start twice.other twice.at_other twice.second in
    let a = one.0 in
    let b = other.0 in
    let same = twice.same in
    let apart = twice.apart in
    omega arith

none_large : (s : Setup) (steps : ℕ) (seats : List SeatView) → AreAtStart s.program s.medium s.harts steps seats → HasTooLarge s.harts seats → ⊥
none_large s steps seats start large =
    let number = (seat_of s steps seats start large.at large.seat large.there).0 in
    let among = slice_get_within seats large.at large.seat large.there in
    let many = count_of_seats s steps seats start in
    let past = large.large in
    omega arith

refused_finish : (s : Setup) (steps : ℕ) (seats : List SeatView) (fault : FinishFault) → AreAtStart s.program s.medium s.harts steps seats
    → RefusesFinish s.harts seats fault → IsUnfinished fault
refused_finish s steps seats finish.SeatMissing start refused = none_lacks s steps seats start refused
refused_finish s steps seats finish.SeatNumber start refused =
    elim refused [ inl twice ↦ none_twice s steps seats start twice | inr large ↦ none_large s steps seats start large ]
refused_finish s steps seats finish.Foreign start refused = tt
refused_finish s steps seats finish.Memory start refused = tt

-- seats of harts that fill the trace
fills : (s : Setup) (steps : ℕ) (seats : List SeatView) → AreAtStart s.program s.medium s.harts steps seats → FillsBus (bus_of s) seats
    → FillsTrace s steps
fills s steps seats start f = record {
  made = f.steps;
  end = f.end;
  run = f.run;
  full = f.full;
  most = λ h below.
      let most = f.within h below in
      let within = most.within in
      let budget = (seat_of s steps seats start most.at most.seat most.there).1 in
      omega arith;
  hart = f.goes_on.seat.hart;
  running = f.goes_on.running;
  left =
      let left = f.goes_on.left in
      let budget = (seat_of s steps seats start f.goes_on.at f.goes_on.seat f.goes_on.there).1 in
      omega arith;
}

stops_so : (s : Setup) (steps : ℕ) (seats : List SeatView) (fault : StepFault) → AreAtStart s.program s.medium s.harts steps seats
    → StopsSeats (bus_of s) seats fault → StopsHarts s steps fault
stops_so s steps seats step_faults.NoSuchHart start refused = none_large s steps seats start refused
stops_so s steps seats step_faults.NoSuchLine start refused = absurd refused
stops_so s steps seats step_faults.TraceFull start refused = fills s steps seats start refused
stops_so s steps seats step_faults.OutOfLimits start refused = absurd refused
stops_so s steps seats step_faults.Memory start refused = tt

-- why harts of the setup's bus are stopped
pub stops_together : (s : Setup) (steps : ℕ) (bus : BusView) (seats : List SeatView) (fault : StepFault) → bus ≡ bus_of s
    → AreAtStart s.program s.medium s.harts steps seats → RefusesRun bus seats (run_faults.Step fault) → StopsHarts s steps fault
stops_together s steps bus seats fault is start refused = stops_so s steps seats fault start (rw is at refused)

-- each hart has its seat, and no other has its number
pub is_unfinished : (s : Setup) (steps : ℕ) (bus : BusView) (seats : List SeatView) (fault : FinishFault) → bus ≡ bus_of s
    → AreAtStart s.program s.medium s.harts steps seats → RefusesRun bus seats (run_faults.Finish fault) → IsUnfinished fault
is_unfinished s steps bus seats fault is start refused = refused_finish s steps seats fault start (rw is at refused)

finish_told : (s : Setup) (steps : ℕ) (fault : FinishFault) → AreWithin s.harts s.capacity steps → IsUnfinished fault
    → FailsTogether s steps (unfinished_of fault)
finish_told s steps finish.SeatMissing within of = absurd of
finish_told s steps finish.SeatNumber within of = absurd of
finish_told s steps finish.Foreign within of = within
finish_told s steps finish.Memory within of = inr (within, tt)

pub fails_finish : (s : Setup) (steps : ℕ) (fault : FinishFault) (told : TogetherFault) → AreWithin s.harts s.capacity steps
    → IsUnfinished fault → told ≡ unfinished_of fault → FailsTogether s steps told
fails_finish s steps fault told within of is = rw is (finish_told s steps fault within of)

-- the harts that are recorded are as many as the setup's
pub hart_count_of : (s : Setup) (recorded : RecordedView) → Records (start_of s) recorded → length recorded.harts ≡ s.harts
hart_count_of s recorded records =
    ap (λ (l : List HartState). length l) records.harts ∙ run_count (start_of s) records.end (all_steps recorded.items) records.runs
    ∙ length-map-range_with_len start 0 s.harts

all_made : (s : Setup) (steps : ℕ) (bus : BusView) (seats : List SeatView) (recorded : RecordedView)
    → AreAtStart s.program s.medium s.harts steps seats → HaveRun bus seats recorded → HaveMadeAll steps recorded
all_made s steps bus seats recorded start run h state there running =
    let spent = run.ended h state there running in
    spent.spent ∙ (seat_of s steps seats start spent.at spent.seat spent.there).1

most_made : (s : Setup) (steps : ℕ) (bus : BusView) (seats : List SeatView) (recorded : RecordedView)
    → AreAtStart s.program s.medium s.harts steps seats → HaveRun bus seats recorded → HaveMadeAtMost steps recorded
most_made s steps bus seats recorded start run h state there =
    let made = run.within h state there in
    let most = made.within in
    let budget = (seat_of s steps seats start made.at made.seat made.there).1 in
    omega arith

pub has_run_together : (s : Setup) (steps : ℕ) (bus : BusView) (seats : List SeatView) (recorded : RecordedView)
    → AreWithin s.harts s.capacity steps → bus ≡ bus_of s → AreAtStart s.program s.medium s.harts steps seats
    → HaveRun bus seats recorded → HasRunTogether s steps recorded
has_run_together s steps bus seats recorded w is start run =
    let r : HaveRun (bus_of s) seats recorded = rw is at run in
    record {
      within = w.0;
      some_steps = w.1;
      few_steps = w.2;
      start = r.start;
      capacity = r.capacity;
      count = hart_count_of s recorded r.records;
      records = r.records;
      most = most_made s steps (bus_of s) seats recorded start r;
      ended = all_made s steps (bus_of s) seats recorded start r;
    }

pub left_together : (s : Setup) (bus : BusView) (seats : List SeatView) (recorded : RecordedView) → bus ≡ bus_of s
    → HaveRun bus seats recorded → IsLeftOf s recorded.items recorded.left
left_together s bus seats recorded is run =
    let r : HaveRun (bus_of s) seats recorded = rw is at run in
    subst (λ (n : ℕ). IsLeftBy (start_of s) (all_steps recorded.items) n recorded.left) r.capacity r.left_is

-- the run that is recorded, by a machine
pub is_run_of : (s : Setup) (steps : ℕ) (recorded : RecordedView) → HasRunTogether s steps recorded → length recorded.trace ≤ 65536
    → length recorded.left ≡ length recorded.start → IsRunOf s recorded
is_run_of s steps recorded run few lines =
    let left = run.records.left in
    let there : AreThere s (all_steps recorded.items) = rw run.count at (rw run.start at run.records.there) in
    let end = run.records.end in
    let ends : (other : MachineView) → (made : HasRun s recorded.items other) → made.has_made.end ≡ end =
    λ other made. runs_once (start_of s) (all_steps recorded.items) made.has_made.end end made.has_made.run run.records.runs in
    record {
      machine = left.machine;
      has_run = record {
        has_made = record {
          within = run.within;
          there = there;
          end = end;
          run = run.records.runs;
          represents = left.represents;
          lines = ap (λ (l : List (List ℕ)). length l) (sym left.lines) ∙ lines ∙ ap (λ (l : List (List ℕ)). length l) run.start;
          few = rw (left.represents.shared.trace ∙ sym run.records.trace) few;
        };
        capacity = left.capacity_is ∙ run.capacity;
      };
      left = left.lines;
      replayed = λ other made. (
        made.has_made.represents.harts ∙ ap (λ (c : Config). c.harts) (ends other made) ∙ sym run.records.harts,
        made.has_made.represents.shared.trace ∙ ap (λ (c : Config). trace_in c.common) (ends other made) ∙ sym run.records.trace,
      );
    }
