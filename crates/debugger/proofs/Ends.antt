-- How `go` ends: at a breakpoint, behind an access to a watched line, behind the last step, or before one that is refused.
use Rattle.std.proofs.Common.{◌≡◌, ℕ, suc, ◌<◌, List, [], ◌∷◌, ◌++◌, length, take, Some, slice_get, refl, sym, ap, ◌∙◌, arith, append_assoc, IfErr, IfOk}
use Rattle.std.proofs.Math.Seq.{take-append_seam}
use Rattle.std.proofs.lemmas.List.{length-append}
use Rattle.machine.specs.Places.{IsPlaceOf, IsStepAt, Leads, steps_after}
use Rattle.machine.specs.Walks.{HaltsAt}
use Rattle.machine.specs.declared.schedule.items.Item.{Item}
use Rattle.machine.specs.declared.schedule.items.Step.{Step}
use Rattle.machine.specs.declared.schedule.items.Step.TheVariants.{Hart}
use Rattle.machine.specs.declared.schedule.place.Place.{Place}
use Rattle.machine.proofs.Places.{leads_behind, leads_end, leads_more, nothing_after, place_at, place_behind, reached, step_there}
use Rattle.machine.specs.declared.shared_memory.fault.StepFault.{StepFault}
use Rattle.machine.specs.Refusals.{Refuses}
use Rattle.machine.specs.Run.{Config, StepsTo}
use Rattle.machine.specs.Represents.{MachineView, Runs, Represents}
use Rattle.machine.specs.RunLaws.{runs_more, runs_none}
use Rattle.debugger.specs.Going.{GoesTo, GoesUpTo, IsStoppedBy, behind, ended}
use Rattle.debugger.specs.Laws.{passes_by}
use Rattle.debugger.specs.Points.{DebuggerView}
use Rattle.debugger.specs.StopPoint.{HasCause, IsAtBreak, IsLeastStop, IsStopPoint, Touches, rank, text_at}
use Rattle.debugger.specs.Walks.{Halts, HaltsBehind, IsUnbroken, MovesTo, Passes, StepsOn, StepsOnto, Walks}
use Rattle.debugger.specs.declared.points.Point.{Point}
use Rattle.debugger.specs.declared.stop.Cause.{Cause}
use Rattle.debugger.specs.declared.stop.Cause.TheVariants as causes
use Rattle.debugger.specs.declared.stop.Halt.{Halt}
use Rattle.debugger.specs.declared.stop.Halt.TheVariants as halts
use Rattle.debugger.proofs.Causes.{IsQuiet, carried, quiet_more, stop_more, untouched}
use Rattle.debugger.proofs.Walking.{hart_there, moves_there, onto_there, same_break, unbroken_there}

-- the stop at the last step of a run: at a breakpoint behind it, by its own access to a watched line, or since no step is left
below_break : (points : List Point) (b e : Config) (last step : Step) (more : List Step) (other : Cause) → MovesTo points b last e → rank other < 1
    → HasCause points b (last ∷ step ∷ more) 0 other → ⊥
below_break points b e last step more (causes.Watch hart line) moves lower h = untouched points b e last (step ∷ more) hart line moves h
below_break points b e last step more (causes.Break hart pc) moves lower h = absurd (omega arith)
below_break points b e last step more causes.End moves lower h = absurd (omega arith)

break_last : (points : List Point) (b e : Config) (last step : Step) (more : List Step) (hart pc : ℕ) → MovesTo points b last e → step ≡ Hart hart
    → IsAtBreak points (slice_get e.harts hart) pc → IsLeastStop points b (last ∷ step ∷ more) 0 (causes.Break hart pc)
break_last points b e last step more hart pc moves is broken = record {
  here = record { after = e; runs = (e, moves.makes, refl); next = ap (λ (s : Step). Some s) is; broken = broken };
  earlier = λ j other less h. absurd (omega arith);
  first = λ other lower h. below_break points b e last step more other moves lower h;
}

step_alike : (c d : Config) (step other : Step) → step ≡ other → StepsTo c step d → StepsTo c other d
step_alike c d step other e makes = rw (← e) makes

watch_last : (points : List Point) (e f : Config) (step : Step) (more : List Step) (hart line : ℕ) → step ≡ Hart hart → StepsTo e step f
    → Touches points (slice_get e.harts hart) (text_at e hart) (slice_get f.harts hart) line
    → IsLeastStop points e (step ∷ more) 0 (causes.Watch hart line)
watch_last points e f step more hart line is makes touches = record {
  here = record {
    before = e;
    after = f;
    runs = refl;
    step = ap (λ (s : Step). Some s) is;
    makes = step_alike e f step (Hart hart) is makes;
    touches = touches;
  };
  earlier = λ j other less h. absurd (omega arith);
  first = λ other lower h. absurd (omega arith);
}

below_end : (points : List Point) (b e : Config) (last : Step) (other : Cause) → MovesTo points b last e → rank other < 2
    → HasCause points b (last ∷ []) 0 other → ⊥
below_end points b e last (causes.Watch hart line) moves lower h = untouched points b e last [] hart line moves h
below_end points b e last (causes.Break hart pc) moves lower h = let next = h.next in absurd (cc)
below_end points b e last causes.End moves lower h = absurd (omega arith)

end_last : (points : List Point) (b e : Config) (last : Step) → MovesTo points b last e → IsLeastStop points b (last ∷ []) 0 causes.End
end_last points b e last moves = record {
  here = refl;
  earlier = λ j other less h. absurd (omega arith);
  first = λ other lower h. below_end points b e last other moves lower h;
}

-- no stop before a step that no breakpoint is at
quiet_last : (points : List Point) (b e : Config) (last step : Step) (more : List Step) → MovesTo points b last e → IsUnbroken points e.harts step
    → IsQuiet points b (last ∷ step ∷ more) 1
quiet_last points b e last step more moves unbroken =
    quiet_more points b e last step more moves unbroken 0 (λ k cause less h. absurd (omega arith))

-- the same of a run that begins by a step before which no breakpoint stops
module _ (points : List Point) (c d e : Config) (first : Step) (made : List Step) (moves : MovesTo points c first d) (passes : Passes points d made e) where
  stop_behind : (cause : Cause) (rest : List Step) → ((b : Config) (last : Step) → MovesTo points b last e → IsLeastStop points b (last ∷ rest) 0 cause)
      → IsLeastStop points c (first ∷ (made ++ rest)) (length made) cause
  stop_behind cause rest base =
      carried points (λ b steps k. IsLeastStop points b steps k cause)
      (λ a b step next steps m u k stop. stop_more points a b step next steps m u k cause stop) c d e first made rest moves passes base

  -- one step on, where no breakpoint stops before that
  stop_one_on : (cause : Cause) (step : Step) (more : List Step) → IsUnbroken points e.harts step → IsLeastStop points e (step ∷ more) 0 cause
      → IsLeastStop points c (first ∷ (made ++ step ∷ more)) (suc (length made)) cause
  stop_one_on cause step more unbroken stop =
      carried points (λ b steps k. IsLeastStop points b steps (suc k) cause)
      (λ a b at next steps m u k later. stop_more points a b at next steps m u (suc k) cause later) c d e first made (step ∷ more) moves passes
      (λ b last m. stop_more points b e last step more m unbroken 0 cause stop)

  quiet_behind : (step : Step) (more : List Step) → IsUnbroken points e.harts step
      → IsQuiet points c (first ∷ (made ++ step ∷ more)) (suc (length made))
  quiet_behind step more unbroken =
      carried points (λ b steps k. IsQuiet points b steps (suc k))
      (λ a b at next steps m u k quiet. quiet_more points a b at next steps m u (suc k) quiet) c d e first made (step ∷ more) moves passes
      (λ b last m. quiet_last points b e last step more m unbroken)

-- `go` where it has made the steps between two places
taken : (steps made more : List Step) → steps ≡ made ++ more → take (length made) steps ≡ made
taken steps made more e = ap (λ (l : List Step). take (length made) l) e ∙ take-append_seam made more

runs_alike : (old new : MachineView) (xs ys : List Step) → xs ≡ ys → Runs old new xs → Runs old new ys
runs_alike old new xs ys e run = rw (← e) run

runs_to : (old now new : MachineView) (steps : List Step) → new ≡ now → Runs old now steps → Runs old new steps
runs_to old now new steps e run = rw e run

stop_alike : (points : List Point) (c : Config) (xs ys : List Step) (n : ℕ) (cause : Cause) → xs ≡ ys → IsStopPoint points c xs n cause
    → IsStopPoint points c ys n cause
stop_alike points c xs ys n cause e s = rw (← e) s

quiet_alike : (points : List Point) (c : Config) (xs ys : List Step) (n : ℕ) → xs ≡ ys → IsQuiet points c xs n → IsQuiet points c ys n
quiet_alike points c xs ys n e q = rw (← e) q

next_is : (made more : List Step) (step : Step) → slice_get (made ++ step ∷ more) (length made) ≡ Some step
next_is [] more step = refl
next_is (first ∷ made) more step = next_is made more step

module _ (old new : DebuggerView) (items : List Item) (from place : Place) (made : List Step) (same : new.points ≡ old.points)
    (leads : Leads items from place made) (runs : Runs old.machine new.machine made) where
  all_made : take (length made) (steps_after items from) ≡ made
  all_made = taken (steps_after items from) made (steps_after items place) leads.after

  goes_to : (cause : Cause) → IsPlaceOf items place
      → ((c : Config) → Represents old.machine c → IsStopPoint old.points c (made ++ steps_after items place) (length made) cause)
      → GoesTo old new items from (record { cause = cause; place = place })
  goes_to cause of stops = record {
    made = length made;
    points = same;
    runs = runs_alike old.machine new.machine made (take (length made) (steps_after items from)) (sym all_made) runs;
    stops = λ c s. stop_alike old.points c (made ++ steps_after items place) (steps_after items from) (length made) cause (sym leads.after) (stops c s);
    place = of;
    reached = reached items from place made leads;
  }

  goes_up_to : (step : Step) (fault : StepFault) → IsStepAt items place step → Refuses new.machine step fault
      → ((c : Config) → Represents old.machine c → IsQuiet old.points c (made ++ steps_after items place) (length made))
      → GoesUpTo old new items from place fault
  goes_up_to step fault here refused quiet =
      let after : steps_after items place ≡ step ∷ steps_after items (behind place) = (leads_behind items place step here).after in
      let next : slice_get (steps_after items from) (length made) ≡ Some step =
      ap (λ (l : List Step). slice_get l (length made)) (leads.after ∙ ap (λ (l : List Step). made ++ l) after)
      ∙ next_is made (steps_after items (behind place)) step in
      record {
        made = length made;
        points = same;
        runs = runs_alike old.machine new.machine made (take (length made) (steps_after items from)) (sym all_made) runs;
        goes_on = λ c s. quiet_alike old.points c (made ++ steps_after items place) (steps_after items from) (length made) (sym leads.after) (quiet c s);
        refused = rw next refused;
        there = (step_there items place step here).1;
        reached = reached items from place made leads;
      }

-- no step is left
pub nothing_left : (old : DebuggerView) (items : List Item) (from : Place) → steps_after items from ≡ []
    → GoesTo old old items from (record { cause = causes.End; place = record { item = length items; steps = 0 } })
nothing_left old items from none =
    goes_to old old items from (record { item = length items; steps = 0 }) [] refl (rw none at (leads_end items from)) (runs_none old.machine) causes.End
    (record { item = omega arith; steps = omega arith })
    (λ c s. (rw none at (sym (leads_end items from).after), refl))

one_more : (points : List Point) (c : Config) (first step : Step) (made more : List Step) (cause : Cause)
    → IsLeastStop points c (first ∷ (made ++ step ∷ more)) (suc (length made)) cause
    → IsLeastStop points c (first ∷ ((made ++ step ∷ []) ++ more)) (length (made ++ step ∷ [])) cause
one_more points c first step made more cause stop =
    let count : length (made ++ step ∷ []) ≡ suc (length made) = omega (arith, length-append made (step ∷ [])) in
    rw (append_assoc made (step ∷ []) more, count) stop

-- the first step from a place on, and the place at it
module _ (old : DebuggerView) (items : List Item) (from at : Place) (first : Step) (there : Leads items from at []) (here : IsStepAt items at first) where
  begun : Leads items from (behind at) (first ∷ [])
  begun = leads_more items from at (behind at) [] (first ∷ []) there (leads_behind items at first here)

  -- where it halts at that step
  pub first_stops : (new : DebuggerView) (halt : Halt) → HaltsBehind old first new halt → IfOk (ended at halt) (GoesTo old new items from)
  first_stops new (halts.Stop (causes.Watch hart line)) h =
      goes_to old new items from (behind at) (first ∷ []) h.points begun h.runs (causes.Watch hart line) (place_behind items at first here)
      (λ c s.
      let came = onto_there old.points old new first hart line refl h c s in
      watch_last old.points c came.0 first (steps_after items (behind at)) hart line h.is_hart came.1 came.2)
  first_stops new (halts.Stop cause) h = absurd h
  first_stops new (halts.Fault fault) h = tt

  pub first_refused : (new : DebuggerView) (halt : Halt) → HaltsBehind old first new halt → IfErr (ended at halt) (IsStoppedBy old new items from)
  first_refused new (halts.Stop cause) h = tt
  first_refused new (halts.Fault fault) h =
      rw (h.0) (goes_up_to old old items from at [] refl there (runs_none old.machine) first fault here h.1
      (λ c s k cause less has. absurd (omega arith)))

  module _ (middle : DebuggerView) (on : StepsOn old first middle) where
    -- where it comes to a place by further steps
    module _ (now : DebuggerView) (place : Place) (made : List Step) (leads : Leads items (behind at) place made) (walks : Walks middle made now) where
      come : Leads items from place (first ∷ made)
      come = leads_more items from (behind at) place (first ∷ []) made begun leads

      gone : Runs old.machine now.machine (first ∷ made)
      gone = runs_more old.machine middle.machine now.machine (first ∷ []) made on.runs walks.runs

      points : now.points ≡ old.points
      points = walks.points ∙ on.points

      passed : (c : Config) → Represents old.machine c
          → (d e : Config) × MovesTo old.points c first d × Passes old.points d made e × Represents now.machine e
      passed c s =
          let d = moves_there old middle first on c s in
          let e = walks.passes d.0 d.2 in
          (d.0, e.0, d.1, passes_by middle.points old.points d.0 e.0 made on.points e.1, e.2)

      goes_to_break : (step : Step) (hart pc : ℕ) → IsStepAt items place step → step ≡ Hart hart
          → IsAtBreak now.points (slice_get now.machine.harts hart) pc
          → GoesTo old now items from (record { cause = causes.Break hart pc; place = place })
      goes_to_break step hart pc at is broken =
          goes_to old now items from place (first ∷ made) points come gone (causes.Break hart pc) (place_at items place step at)
          (λ c s.
          let p = passed c s in
          let more : List Step = steps_after items (behind place) in
          stop_alike old.points c (first ∷ (made ++ step ∷ more)) (first ∷ (made ++ steps_after items place)) (suc (length made))
          (causes.Break hart pc) (ap (λ (l : List Step). first ∷ (made ++ l)) (sym (leads_behind items place step at).after))
          (stop_behind old.points c p.0 p.1 first made p.2 p.3 (causes.Break hart pc) (step ∷ more)
          (λ b last m. break_last old.points b p.1 last step more hart pc m is
          (same_break now.points old.points (slice_get now.machine.harts hart) (slice_get p.1.harts hart) pc points
          (hart_there now.machine p.1 hart p.4) broken))))

      goes_to_watch : (new : DebuggerView) (step : Step) (hart line : ℕ) → IsStepAt items place step
          → IsUnbroken now.points now.machine.harts step → StepsOnto now step new hart line
          → GoesTo old new items from (record { cause = causes.Watch hart line; place = behind place })
      goes_to_watch new step hart line at unbroken onto =
          let more : List Step = steps_after items (behind place) in
          goes_to old new items from (behind place) (first ∷ (made ++ step ∷ [])) (onto.points ∙ points)
          (leads_more items from place (behind place) (first ∷ made) (step ∷ []) come (leads_behind items place step at))
          (runs_more old.machine now.machine new.machine (first ∷ made) (step ∷ []) gone onto.runs) (causes.Watch hart line)
          (place_behind items place step at)
          (λ c s.
          let p = passed c s in
          let came = onto_there old.points now new step hart line points onto p.1 p.4 in
          one_more old.points c first step made more (causes.Watch hart line)
          (stop_one_on old.points c p.0 p.1 first made p.2 p.3 (causes.Watch hart line) step more
          (unbroken_there now.points old.points now.machine p.1 step points p.4 unbroken)
          (watch_last old.points p.1 came.0 step more hart line onto.is_hart came.1 came.2)))

      goes_up_to_fault : (step : Step) (fault : StepFault) → IsStepAt items place step → IsUnbroken now.points now.machine.harts step
          → Refuses now.machine step fault → GoesUpTo old now items from place fault
      goes_up_to_fault step fault at unbroken refused =
          let more : List Step = steps_after items (behind place) in
          goes_up_to old now items from place (first ∷ made) points come gone step fault at refused
          (λ c s.
          let p = passed c s in
          quiet_alike old.points c (first ∷ (made ++ step ∷ more)) (first ∷ (made ++ steps_after items place)) (suc (length made))
          (ap (λ (l : List Step). first ∷ (made ++ l)) (sym (leads_behind items place step at).after))
          (quiet_behind old.points c p.0 p.1 first made p.2 p.3 step more
          (unbroken_there now.points old.points now.machine p.1 step points p.4 unbroken)))

      goes_to_last : steps_after items place ≡ [] → IsPlaceOf items place
          → GoesTo old now items from (record { cause = causes.End; place = place })
      goes_to_last none of =
          goes_to old now items from place (first ∷ made) points come gone causes.End of
          (λ c s.
          let p = passed c s in
          stop_alike old.points c (first ∷ (made ++ [])) (first ∷ (made ++ steps_after items place)) (suc (length made)) causes.End
          (ap (λ (l : List Step). first ∷ (made ++ l)) (sym none))
          (stop_behind old.points c p.0 p.1 first made p.2 p.3 causes.End [] (λ b last m. end_last old.points b p.1 last m)))

    -- where it halts at a later step, and where it makes all
    pub later_stops : (new : DebuggerView) (place : Place) (halt : Halt) → HaltsAt Walks Halts middle new items (behind at) place halt
        → IfOk (ended place halt) (GoesTo old new items from)
    later_stops new place (halts.Stop (causes.Break hart pc)) h =
        rw (h.halted.0) (goes_to_break h.middle place h.before.steps h.before.leads h.before.made h.step hart pc h.here h.halted.1 h.halted.2)
    later_stops new place (halts.Stop (causes.Watch hart line)) h =
        goes_to_watch h.middle place h.before.steps h.before.leads h.before.made new h.step hart line h.here h.halted.0 h.halted.1
    later_stops new place (halts.Stop causes.End) h = absurd h.halted.1
    later_stops new place (halts.Fault fault) h = tt

    pub later_refused : (new : DebuggerView) (place : Place) (halt : Halt) → HaltsAt Walks Halts middle new items (behind at) place halt
        → IfErr (ended place halt) (IsStoppedBy old new items from)
    later_refused new place (halts.Stop cause) h = tt
    later_refused new place (halts.Fault fault) h =
        rw (h.halted.1.0)
        (goes_up_to_fault h.middle place h.before.steps h.before.leads h.before.made h.step fault h.here h.halted.0 h.halted.1.1)

    pub goes_to_end : (new : DebuggerView) → Walks middle (steps_after items (behind at)) new
        → GoesTo old new items from (record { cause = causes.End; place = record { item = length items; steps = 0 } })
    goes_to_end new walks =
        goes_to_last new (record { item = length items; steps = 0 }) (steps_after items (behind at)) (leads_end items (behind at)) walks
        (nothing_after items (length items) 0 (omega arith)) (record { item = omega arith; steps = omega arith })
