-- Turns, one after another.
use Rattle.std.proofs.Common.{◌≡◌, ℕ, ◌+◌, ◌-◌, ◌<◌, ◌≤◌, List, [], ◌∷◌, ◌++◌, length, replicate, slice_get, refl, ap, ◌∙◌, arith, append-nil, inl, inr, Some}
use Rattle.std.proofs.lemmas.List.{length-replicate}
use Rattle.std.proofs.lemmas.Grind.{flat_map-append}
use Rattle.hart.specs.declared.state.HartState.{HartState}
use Rattle.machine.specs.Replies.{trace_in}
use Rattle.machine.specs.Run.{Config, StepsTo}
use Rattle.machine.specs.Represents.{IsRunning, MachineView, Represents}
use Rattle.machine.proofs.Refusing.{event_is_longer}
use Rattle.machine.specs.declared.schedule.items.Step.{Step}
use Rattle.machine.specs.declared.schedule.items.Step.TheVariants.{Hart}
use Rattle.random_schedule.specs.Drawing.{ComesTo, Stand, StopsDrawing, TakesTurn, TakesTurns, drawn_steps, turn_steps}
use Rattle.random_schedule.specs.Interleaves.{running}
use Rattle.random_schedule.specs.Making.{HasTaken, IsHeld, IsHeldAmong, MakesSteps, MakingView}
use Rattle.random_schedule.specs.SplitMix.{below, next_state}
use Rattle.random_schedule.specs.declared.fault.InterleaveFault.{InterleaveFault}
use Rattle.random_schedule.specs.declared.fault.InterleaveFault.TheVariants.{TraceFull, Memory}

one_more : (p q r : Stand) (turns : List (ℕ × ℕ)) (turn : ℕ × ℕ) → TakesTurns p turns q → TakesTurn q turn.0 turn.1 r → TakesTurns p (turns ++ turn ∷ []) r
one_more p q r [] turn a b = (r, rw a at b, refl)
one_more p q r (first ∷ turns) turn a b = (a.0, a.1, one_more a.0 q r turns turn a.2 b)

steps_more : (turns : List (ℕ × ℕ)) (h n : ℕ) → turn_steps (turns ++ (h, n) ∷ []) ≡ turn_steps turns ++ replicate n (Hart h)
steps_more turns h n =
    flat_map-append (λ (turn : ℕ × ℕ). replicate turn.1 (Hart turn.0)) turns ((h, n) ∷ [])
    ∙ ap (λ (more : List Step). turn_steps turns ++ more) (append-nil (replicate n (Hart h)))

-- a hart among those that run, by what the machine represents
drawn_there : (harts others : List HartState) (state h : ℕ) → harts ≡ others
    → slice_get (running harts) (below (length (running harts)) state) ≡ Some h
    → slice_get (running others) (below (length (running others)) state) ≡ Some h
drawn_there harts others state h e drawn = rw e at drawn

taken_more : (old new : MakingView) (state last h limit : ℕ) → old.made < limit
    → slice_get (running old.machine.harts) (below (length (running old.machine.harts)) state) ≡ Some h
    → MakesSteps old new h (drawn_steps (next_state state) (limit - old.made)) → last ≡ next_state (next_state state)
    → (c : Config) (seed : ℕ) → HasTaken c seed limit old state → HasTaken c seed limit new last
taken_more old new state last h limit less drawn makes e c seed has =
    let n : ℕ = makes.made in
    let went = makes.continues.goes c has.end (turn_steps has.turns) has.made in
    let left_is : limit - old.made ≡ has.left = let all = has.all in omega arith in
    let few : n ≤ drawn_steps (next_state state) has.left = rw left_is at makes.few in
    let fits : n ≤ has.left = omega arith in
    let longer : new.made ≡ old.made + n = makes.continues.made ∙ ap (λ (k : ℕ). old.made + k) (length-replicate n (Hart h)) in
    let p : Stand = record { config = has.end; state = state; left = has.left } in
    let q : Stand = record { config = went.0; state = last; left = has.left - n } in
    let turn : TakesTurn p h n q = record {
      some = omega arith;
      hart = drawn_there old.machine.harts has.end.harts state h has.made.represents.harts drawn;
      makes = record {
        few = few;
        runs = went.1;
        all = elim makes.all [
          | inl all ↦ inl (rw left_is at all)
          | inr stopped ↦ inr (rw went.2.represents.harts at stopped)
        ];
      };
      state = e;
      left = omega arith;
    } in
    record {
      turns = has.turns ++ (h, n) ∷ [];
      end = went.0;
      left = has.left - n;
      taken = one_more (record { config = c; state = seed; left = limit }) p q has.turns (h, n) has.taken turn;
      made = rw (steps_more has.turns h n) went.2;
      all = let all = has.all in omega arith;
    }

pub went_on : (seen old new : MakingView) (h count limit : ℕ) → seen ≡ old → seen.made + count ≤ limit → MakesSteps old new h count
    → (new.made ≤ limit) × (old.made < new.made)
went_on seen old new h count limit e fits makes =
    let longer : new.made ≡ old.made + makes.made = makes.continues.made ∙ ap (λ (k : ℕ). old.made + k) (length-replicate makes.made (Hart h)) in
    let few = makes.few in
    let some = makes.some in
    let same : seen.made ≡ old.made = ap (λ (m : MakingView). m.made) e in
    (omega arith, omega arith)

-- what a held step says of the draw
held_there : (fault : InterleaveFault) (m : MachineView) (h : ℕ) (c d : Config) (seed limit : ℕ) → Represents m d → IsHeld m h fault
    → ((after : Config) → IsRunning (slice_get d.harts h) → StepsTo d (Hart h) after → ComesTo c seed limit after) → StopsDrawing c seed limit fault
held_there TraceFull m h c d seed limit stands held comes =
    let next = event_is_longer m (Hart h) d held.harts stands held.event in
    let events : length (trace_in d.common) ≡ 65536 = rw stands.shared.trace at held.full in
    (next.0, comes next.0 (rw stands.harts at held.running) next.1, next.2 ∙ ap (λ (n : ℕ). n + 1) events)
held_there Memory m h c d seed limit stands held comes =
    let next = held.goes d stands in
    inl (next.0, comes next.0 (rw stands.harts at held.running) next.1, next.2)

stops : (old : MakingView) (state h limit : ℕ) (fault : InterleaveFault) → old.made < limit
    → slice_get (running old.machine.harts) (below (length (running old.machine.harts)) state) ≡ Some h
    → IsHeldAmong old h (drawn_steps (next_state state) (limit - old.made)) fault
    → (c : Config) (seed : ℕ) → HasTaken c seed limit old state → StopsDrawing c seed limit fault
stops old state h limit fault less drawn among c seed has =
    let went = among.continues.goes c has.end (turn_steps has.turns) has.made in
    let left_is : limit - old.made ≡ has.left = let all = has.all in omega arith in
    held_there fault among.at.machine h c went.0 seed limit went.2.represents among.held (λ after running step. record {
      turns = has.turns;
      stand = record { config = has.end; state = state; left = has.left };
      taken = has.taken;
      hart = h;
      drawn = drawn_there old.machine.harts has.end.harts state h has.made.represents.harts drawn;
      made = among.made;
      more = rw left_is at among.fewer;
      before = went.0;
      runs = went.1;
      running = running;
      step = step;
    })

-- the same of what was drawn, step by step, by what is seen of the machine
pub taken_by : (seen old new : MakingView) (state middle last h count limit : ℕ) → seen ≡ old → seen.made < limit
    → slice_get (running seen.machine.harts) (below (length (running seen.machine.harts)) state) ≡ Some h
    → middle ≡ next_state state → count ≡ drawn_steps middle (limit - seen.made) → last ≡ next_state middle → MakesSteps old new h count
    → (c : Config) (seed : ℕ) → HasTaken c seed limit old state → HasTaken c seed limit new last
taken_by seen old new state middle last h count limit e less drawn m n l makes =
    let counted : count ≡ drawn_steps (next_state state) (limit - old.made) = rw (m, e) at n in
    taken_more old new state last h limit (rw e at less) (rw e at drawn) (rw counted at makes) (l ∙ ap (λ (s : ℕ). next_state s) m)

pub stops_by : (seen old : MakingView) (state middle h count limit : ℕ) (fault : InterleaveFault) → seen ≡ old → seen.made < limit
    → slice_get (running seen.machine.harts) (below (length (running seen.machine.harts)) state) ≡ Some h
    → middle ≡ next_state state → count ≡ drawn_steps middle (limit - seen.made) → IsHeldAmong old h count fault
    → (c : Config) (seed : ℕ) → HasTaken c seed limit old state → StopsDrawing c seed limit fault
stops_by seen old state middle h count limit fault e less drawn m n held =
    let counted : count ≡ drawn_steps (next_state state) (limit - old.made) = rw (m, e) at n in
    stops old state h limit fault (rw e at less) (rw e at drawn) (rw counted at held)
