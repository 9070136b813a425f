-- Steps that a machine makes, one after another.
use Rattle.std.proofs.Common.{◌≡◌, ℕ, ◌+◌, ◌<◌, ◌≤◌, List, [], ◌∷◌, ◌++◌, length, take, replicate, slice_get, refl, sym, ap, ◌∙◌, arith, append-nil, append_assoc, add-zero, inl, inr, All, Option, true}
use Rattle.std.proofs.lemmas.Bool.{cases_lt}
use Rattle.std.proofs.lemmas.List.{length-append, replicate_more, take-append-le}
use Rattle.std.proofs.Math.Seq.{take-length}
use Rattle.random_schedule.specs.declared.fault.InterleaveFault.{InterleaveFault}
use Rattle.machine.specs.Replies.{trace_in}
use Rattle.machine.specs.Stops.{is_stopped}
use Rattle.machine.specs.Run.{Config, RunsTo, StepsTo}
use Rattle.machine.specs.Represents.{IsRunning, MachineView, Runs}
use Rattle.machine.proofs.Determined.{runs_once}
use Rattle.machine.proofs.Refusing.{event_is_longer}
use Rattle.machine.proofs.RunParts.{grows}
use Rattle.machine.specs.Outcomes.{HartMakesEvent}
use Rattle.machine.specs.Steps.{all_steps}
use Rattle.machine.specs.declared.schedule.items.Step.{Step}
use Rattle.machine.specs.declared.schedule.items.Step.TheVariants.{Hart}
use Rattle.store_trace.specs.declared.event.Event.{Event}
use Rattle.random_schedule.specs.Evictions.{stored_by}
use Rattle.random_schedule.specs.Interleaves.{Interleaves, stored_lines}
use Rattle.random_schedule.specs.Making.{Agrees, AreFirstStores, Continues, HasRoom, IsHeld, IsHeldAmong, MakesSteps, MakingView, line_at, with_store}
use Rattle.random_schedule.specs.declared.evictions.FirstStore.{FirstStore}
use Rattle.random_schedule.proofs.Runs.{run_more, runs_of}
use Rattle.random_schedule.proofs.Stores.{ascending_more, lines_after, lines_before, within_more}
use Rattle.random_schedule.proofs.Weaves.{counted, counted_all, counted_more}

-- no step, and steps after steps
pub continues_none : (m : MakingView) → Continues m m []
continues_none m = record {
  made = sym (add-zero m.made);
  agrees = λ a. a;
  goes = λ c end past has. (end, refl, rw (append-nil past) has);
}

pub continues_more : (old middle new : MakingView) (xs ys : List Step) → Continues old middle xs → Continues middle new ys
    → Continues old new (xs ++ ys)
continues_more old middle new xs ys a b = record {
  made = let m = a.made in let n = b.made in omega (arith, length-append xs ys);
  agrees = λ agrees. b.agrees (a.agrees agrees);
  goes = λ c end past has.
      let first = a.goes c end past has in
      let then = b.goes c first.0 (past ++ xs) first.2 in
      (then.0, run_more end first.0 then.0 xs ys first.1 then.1, rw (← append_assoc past xs ys) then.2);
}

pub hart_continues : (old middle new : MakingView) (h n : ℕ) → Continues old middle (replicate n (Hart h))
    → Continues middle new (Hart h ∷ []) → Continues old new (replicate (n + 1) (Hart h))
hart_continues old middle new h n a b =
    rw (← replicate_more n (Hart h)) (continues_more old middle new (replicate n (Hart h)) (Hart h ∷ []) a b)

-- a step
one_step : (c d : Config) (step : Step) → RunsTo c (step ∷ []) d → StepsTo c step d
one_step c d step run = rw run.2 run.1

stores_past : (c end d : Config) (past : List Step) (h made : ℕ) (old new : List FirstStore) (more : List Event)
    → Interleaves c past end → Interleaves c (past ++ Hart h ∷ []) d → made ≡ length past
    → trace_in d.common ≡ trace_in end.common ++ more → length more ≤ 1
    → AreFirstStores c past old → All (λ (s : FirstStore). s.step ≤ made) old
    → new ≡ with_store (made + 1) old (line_at (slice_get (trace_in d.common) (length (trace_in end.common))))
    → AreFirstStores c (past ++ Hart h ∷ []) new
stores_past c end d past h made old new more run all count trace few first within e k at inside runs =
    let longer = length-append past (Hart h ∷ []) in
    elim (cases_lt k (length past + 1)) [
      | inl less ↦
          let fits : k ≤ length past = omega arith in
          let before : RunsTo c (take k past) at = rw (take-append-le k past (Hart h ∷ []) fits) at runs in
          let same : stored_by k new ≡ stored_by k old =
          ap (λ (stores : List FirstStore). stored_by k stores) e
          ∙ lines_before k made old (line_at (slice_get (trace_in d.common) (length (trace_in end.common)))) (omega arith) in
          first k at fits before ∙ sym same
      | inr past_it ↦
          let last : k ≡ made + 1 = omega arith in
          let whole : k ≡ length (past ++ Hart h ∷ []) = omega arith in
          let there : RunsTo c (past ++ Hart h ∷ []) at = rw (whole, take-length (past ++ Hart h ∷ [])) at runs in
          let same : at ≡ d = runs_once c (past ++ Hart h ∷ []) at d there (runs_of c d (past ++ Hart h ∷ []) all) in
          let before : stored_lines (trace_in end.common) ≡ stored_by made old =
          rw (← count) at (first (length past) end (omega arith) (rw (take-length past) (runs_of c end past run))) in
          let after = lines_after (trace_in end.common) (trace_in d.common) more made old trace few before within in
          rw (same, last, e) after
    ]

agrees_step : (old new : MakingView) (h : ℕ) (line : Option ℕ) → all_steps new.items ≡ all_steps old.items ++ Hart h ∷ [] → new.made ≡ old.made + 1
    → new.stores ≡ with_store new.made old.stores line → Agrees old → Agrees new
agrees_step old new h line items made stores agrees =
    let now = counted_all 0 new.items in
    let was = counted_all 0 old.items in
    let sum : counted 0 (all_steps new.items) ≡ counted 0 (all_steps old.items) + 1 =
    ap (λ (steps : List Step). counted 0 steps) items ∙ counted_more 0 (all_steps old.items) (Hart h ∷ []) in
    let noted : new.stores ≡ with_store (old.made + 1) old.stores line = rw made at stores in
    let before = agrees.count in
    record {
      count = omega arith;
      ascending = rw noted (ascending_more old.made old.stores line agrees.within agrees.ascending);
      within = rw (made, noted) (within_more old.made old.stores line agrees.within);
    }

pub continues_step : (old new : MakingView) (h : ℕ) → Runs old.machine new.machine (Hart h ∷ [])
    → IsRunning (slice_get old.machine.harts h) → all_steps new.items ≡ all_steps old.items ++ Hart h ∷ []
    → new.made ≡ old.made + 1
    → new.stores ≡ with_store new.made old.stores (line_at (slice_get new.machine.shared.trace (length old.machine.shared.trace)))
    → Continues old new (Hart h ∷ [])
continues_step old new h runs running items made stores = record {
  made = made;
  agrees = agrees_step old new h (line_at (slice_get new.machine.shared.trace (length old.machine.shared.trace))) items made stores;
  goes = λ c end past has.
      let after = runs.represents end has.represents in
      let d : Config = after.0 in
      let moves : StepsTo end (Hart h) d = one_step end d (Hart h) after.1 in
      let g = grows end d (Hart h) moves in
      let runs_there : IsRunning (slice_get end.harts h) = rw has.represents.harts at running in
      let one : Interleaves end (Hart h ∷ []) d = (d, runs_there, moves, refl) in
      let all : Interleaves c (past ++ Hart h ∷ []) d = run_more c end d past (Hart h ∷ []) has.runs one in
      let noted : new.stores ≡ with_store (old.made + 1) old.stores (line_at (slice_get (trace_in d.common) (length (trace_in end.common)))) =
      rw (made, after.2.shared.trace, has.represents.shared.trace) at stores in (
        d,
        one,
        record {
          runs = all;
          represents = after.2;
          items = items ∙ ap (λ (steps : List Step). steps ++ Hart h ∷ []) has.items;
          made = made ∙ ap (λ (n : ℕ). n + 1) has.made ∙ sym (length-append past (Hart h ∷ []));
          stores = stores_past c end d past h old.made old.stores new.stores g.more has.runs all has.made g.trace g.few has.stores has.agrees.within noted;
          agrees = agrees_step old new h (line_at (slice_get new.machine.shared.trace (length old.machine.shared.trace))) items made stores has.agrees;
        },
      );
}

-- steps of a hart: all of them, or those up to the one that stops it, or those before one that finds the trace full
pub makes_all : (old new : MakingView) (h count : ℕ) → 0 < count → Continues old new (replicate count (Hart h)) → MakesSteps old new h count
makes_all old new h count some continues = record { made = count; some = some; few = omega arith; continues = continues; all = inl refl }

pub makes_some : (old middle new : MakingView) (h done count : ℕ) → done < count → Continues old middle (replicate done (Hart h))
    → Continues middle new (Hart h ∷ []) → is_stopped (slice_get new.machine.harts h) ≡ true → MakesSteps old new h count
makes_some old middle new h done count less a b stopped = record {
  made = done + 1;
  some = omega arith;
  few = omega arith;
  continues = hart_continues old middle new h done a b;
  all = inr stopped;
}

pub held_among : (old middle : MakingView) (h done count : ℕ) (fault : InterleaveFault) → done < count
    → Continues old middle (replicate done (Hart h)) → IsHeld middle.machine h fault → IsHeldAmong old h count fault
held_among old middle h done count fault less a held = record { made = done; fewer = less; at = middle; continues = a; held = held }

-- a step that was made, and one for whose event there is room
pub room_made : (old new : MachineView) (h : ℕ) → Runs old new (Hart h ∷ []) → IsRunning (slice_get old.harts h)
    → length new.shared.trace ≤ 65536 → HasRoom old h
room_made old new h runs running few = record {
  running = running;
  goes = λ c stands.
      let after = runs.represents c stands in
      (after.0, one_step c after.0 (Hart h) after.1, rw after.2.shared.trace at few);
}

pub room_left : (machine : MachineView) (h : ℕ) → IsRunning (slice_get machine.harts h) → length machine.harts ≤ 8 → HartMakesEvent machine h
    → length machine.shared.trace < 65536 → HasRoom machine h
room_left machine h running harts event few = record {
  running = running;
  goes = λ c stands.
      let longer = event_is_longer machine (Hart h) c harts stands event in
      let less : length (trace_in c.common) < 65536 = rw stands.shared.trace at few in
      (longer.0, longer.1, let more = longer.2 in omega arith);
}
