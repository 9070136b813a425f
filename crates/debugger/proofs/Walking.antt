-- Walks of a debugger: one step, and the steps of a hart that has stopped.
use Rattle.std.proofs.Common.{◌≡◌, ℕ, zero, suc, ◌<◌, List, [], ◌∷◌, length, replicate, true, false, Option, Some, Result, Ok, Err, OnOk, slice_get, refl, sym, ap, ◌∙◌}
use Rattle.std.proofs.lemmas.Option.{slice_get_within}
use Rattle.line_memory.specs.Memory.{Memory}
use Rattle.hart.specs.declared.state.HartState.{HartState}
use Rattle.hart.specs.declared.state.Status.{Status}
use Rattle.hart.specs.declared.state.Status.TheVariants.{Running}
use Rattle.machine.specs.declared.schedule.items.Step.{Step}
use Rattle.machine.specs.declared.schedule.items.Step.TheVariants.{Hart}
use Rattle.machine.specs.Run.{Config, StepsTo}
use Rattle.machine.specs.Represents.{MachineView, Represents, copy_of}
use Rattle.machine.specs.Stops.{has_stopped, is_stopped}
use Rattle.machine.proofs.Steps.{stopped_runs}
use Rattle.debugger.specs.Laws.{walks_joined, walks_none}
use Rattle.debugger.specs.Points.{DebuggerView}
use Rattle.debugger.specs.StopPoint.{IsAtBreak, Touches, text_at}
use Rattle.debugger.specs.Walks.{Halts, HaltsBehind, IsStoppedBefore, IsUnbroken, MovesTo, StepsOn, StepsOnto, Walks}
use Rattle.debugger.specs.declared.points.Point.{Point}
use Rattle.debugger.specs.declared.stop.Cause.{Cause}
use Rattle.debugger.specs.declared.stop.Cause.TheVariants as causes
use Rattle.debugger.specs.declared.stop.Halt.{Halt}
use Rattle.debugger.specs.declared.stop.Halt.TheVariants as halts

-- what a machine says of its harts, the configuration that it represents says too
pub same_break : (points other : List Point) (state now : Option HartState) (pc : ℕ) → points ≡ other → state ≡ now
    → IsAtBreak points state pc → IsAtBreak other now pc
same_break points other state now pc e f b = rw (← e, ← f) b

pub hart_there : (m : MachineView) (c : Config) (h : ℕ) → Represents m c → slice_get m.harts h ≡ slice_get c.harts h
hart_there m c h s = ap (λ (harts : List HartState). slice_get harts h) s.harts

pub unbroken_there : (points other : List Point) (m : MachineView) (c : Config) (step : Step) → points ≡ other → Represents m c
    → IsUnbroken points m.harts step → IsUnbroken other c.harts step
unbroken_there points other m c step e s u hart pc is b =
    u hart pc is (same_break other points (slice_get c.harts hart) (slice_get m.harts hart) pc (sym e) (sym (hart_there m c hart s)) b)

same_touch : (points other : List Point) (state now after later : Option HartState) (text copy : Memory) (line : ℕ) → points ≡ other → state ≡ now
    → text ≡ copy → after ≡ later → Touches points state text after line → Touches other now copy later line
same_touch points other state now after later text copy line p a b e t = rw (← p, ← a, ← b, ← e) t

touch_there : (points other : List Point) (m n : MachineView) (c d : Config) (hart line : ℕ) → points ≡ other → Represents m c → Represents n d
    → Touches points (slice_get m.harts hart) (copy_of m hart) (slice_get n.harts hart) line
    → Touches other (slice_get c.harts hart) (text_at c hart) (slice_get d.harts hart) line
touch_there points other m n c d hart line e s r t =
    let inside : hart < length m.harts = slice_get_within m.harts hart t.accesses.hart t.accesses.there in
    same_touch points other (slice_get m.harts hart) (slice_get c.harts hart) (slice_get n.harts hart) (slice_get d.harts hart)
    (copy_of m hart) (text_at c hart) line e (hart_there m c hart s) (s.copies hart inside) (hart_there n d hart r) t

touch_here : (points : List Point) (m n : MachineView) (c d : Config) (hart line : ℕ) → Represents m c → Represents n d
    → Touches points (slice_get c.harts hart) (text_at c hart) (slice_get d.harts hart) line
    → Touches points (slice_get m.harts hart) (copy_of m hart) (slice_get n.harts hart) line
touch_here points m n c d hart line s r t =
    let same : slice_get m.harts hart ≡ slice_get c.harts hart = hart_there m c hart s in
    let inside : hart < length m.harts = slice_get_within m.harts hart t.accesses.hart (same ∙ t.accesses.there) in
    same_touch points points (slice_get c.harts hart) (slice_get m.harts hart) (slice_get d.harts hart) (slice_get n.harts hart)
    (text_at c hart) (copy_of m hart) line refl (sym same) (sym (s.copies hart inside)) (sym (hart_there n d hart r)) t

stands_alike : (m : MachineView) (c d : Config) → c ≡ d → Represents m c → Represents m d
stands_alike m c d e s = rw (← e) s

-- one step that touches no watched line
pub moves_there : (old new : DebuggerView) (step : Step) → StepsOn old step new → (c : Config) → Represents old.machine c
    → (d : Config) × MovesTo old.points c step d × Represents new.machine d
moves_there old new step by c s =
    let made = by.runs.represents c s in
    let reached : Represents new.machine made.1.0 = stands_alike new.machine made.0 made.1.0 made.1.2 made.2 in (
      made.1.0,
      record {
        makes = made.1.1;
        untouched = λ hart line is t.
            by.untouched hart line is (touch_here old.points old.machine new.machine c made.1.0 hart line s reached t);
      },
      reached,
    )

-- one step that touches the watched line
pub onto_there : (points : List Point) (old new : DebuggerView) (step : Step) (hart line : ℕ) → old.points ≡ points → StepsOnto old step new hart line
    → (c : Config) → Represents old.machine c
    → (d : Config) × StepsTo c step d × Touches points (slice_get c.harts hart) (text_at c hart) (slice_get d.harts hart) line
onto_there points old new step hart line same on c s =
    let made = on.runs.represents c s in
    let reached : Represents new.machine made.1.0 = stands_alike new.machine made.0 made.1.0 made.1.2 made.2 in
    (made.1.0, made.1.1, touch_there old.points points old.machine new.machine c made.1.0 hart line same s reached on.touches)

pub walks_one : (old new : DebuggerView) (step : Step) → IsUnbroken old.points old.machine.harts step → StepsOn old step new → Walks old (step ∷ []) new
walks_one old new step unbroken by = record {
  points = by.points;
  runs = by.runs;
  passes = λ c s.
      let moved = moves_there old new step by c s in
      (moved.0, (moved.0, unbroken_there old.points old.points old.machine c step refl s unbroken, moved.1, refl), moved.2);
}

-- a step at which the debugger halts
pub halts_before : (old : DebuggerView) (step : Step) (cause : Cause) → IsStoppedBefore old.points old.machine.harts step (Some cause)
    → Halts old step old (halts.Stop cause)
halts_before old step (causes.Break hart pc) h = (refl, h.0, h.1)
halts_before old step cause h = absurd h

pub halts_behind : (old new : DebuggerView) (step : Step) (halt : Halt) → IsUnbroken old.points old.machine.harts step
    → HaltsBehind old step new halt → Halts old step new halt
halts_behind old new step (halts.Stop (causes.Break hart pc)) unbroken h = absurd h
halts_behind old new step halt unbroken h = (unbroken, h)

-- steps of a hart that has stopped: nothing changes, and no point stops before or behind them
stopped_status : (status : Status) → has_stopped status ≡ true → status ≡ Running → ⊥
stopped_status status e running = let told : has_stopped status ≡ false = rw running refl in cc

stopped_runs_not : (state : Option HartState) (hart : HartState) → is_stopped state ≡ true → state ≡ Some hart → hart.status ≡ Running → ⊥
stopped_runs_not state hart e there running = stopped_status hart.status (rw there at e) running

module _ (d : DebuggerView) (hart : ℕ) (stopped : is_stopped (slice_get d.machine.harts hart) ≡ true) where
  rests_not : (other : ℕ) (state : HartState) → Hart hart ≡ Hart other → slice_get d.machine.harts other ≡ Some state → state.status ≡ Running → ⊥
  rests_not other state is there running =
      let same : hart ≡ other = cc in stopped_runs_not (slice_get d.machine.harts other) state (rw same at stopped) there running

  pub walks_rest : (count : ℕ) → Walks d (replicate count (Hart hart)) d
  walks_rest zero = walks_none d
  walks_rest (suc count) = walks_joined d d d (Hart hart ∷ []) (replicate count (Hart hart))
      (walks_one d d (Hart hart) (λ other pc is b. rests_not other b.hart is b.there b.running) (record {
        points = refl;
        runs = stopped_runs d.machine hart 1 stopped;
        untouched = λ other line is t. rests_not other t.accesses.hart is t.accesses.there t.accesses.running;
      }))
      (walks_rest count)

-- the same of what the calls tell
pub walks_resting : (d : DebuggerView) (machine : MachineView) (step : Step) (hart count : ℕ) → machine ≡ d.machine → step ≡ Hart hart
    → is_stopped (slice_get machine.harts hart) ≡ true → Walks d (replicate count step) d
walks_resting d machine step hart count same is stopped = rw is (walks_rest d hart (rw same at stopped) count)

pub walks_if_made : {A E : Type 0} (old new : DebuggerView) (step : Step) (result : Result A E) → IsUnbroken old.points old.machine.harts step
    → OnOk result (StepsOn old step new) → OnOk result (Walks old (step ∷ []) new)
walks_if_made old new step (Ok value) unbroken on = walks_one old new step unbroken on
walks_if_made old new step (Err halt) unbroken on = tt
