-- What a hart's next instruction asks for, and what a step is watched for.
use Rattle.std.proofs.Common.{◌≡◌, ℕ, List, [], ◌∷◌, true, false, Option, Some, None, slice_get, refl, sym, ap, ◌∙◌}
use Rattle.line_memory.specs.Memory.{Memory}
use Rattle.hart.specs.Needs.{Needs}
use Rattle.hart.specs.declared.state.HartState.{HartState}
use Rattle.hart.specs.declared.state.Status.{Status}
use Rattle.hart.specs.declared.state.Status.TheVariants.{Running}
use Rattle.hart.specs.declared.state.Status.TheVariants as statuses
use Rattle.hart.specs.declared.need.Need.{Need}
use Rattle.hart.specs.declared.need.Need.TheVariants.{Ask}
use Rattle.hart.specs.declared.need.Request.{Request}
use Rattle.machine.specs.declared.schedule.items.Step.{Step}
use Rattle.machine.specs.declared.schedule.items.Step.TheVariants.{Hart}
use Rattle.machine.specs.declared.machine.Outcome.{Outcome}
use Rattle.machine.specs.declared.machine.Outcome.TheVariants as outcomes
use Rattle.machine.specs.Outcomes.{hart_outcome, outcome_after, outcome_between}
use Rattle.machine.specs.Run.{fetched}
use Rattle.machine.specs.Represents.{IsRunning, MachineView, NeedsAt, Runs, copy_of}
use Rattle.machine.proofs.Determined.{needs_once}
use Rattle.debugger.specs.Points.{DebuggerView, has_watch}
use Rattle.debugger.specs.StopPoint.{Accesses, IsAtBreak, Touches, touched_line}
use Rattle.debugger.specs.Walks.{AsksFor, AsksForWatched, IsStoppedBehind, IsUnbroken, WatchesOn, met_by}
use Rattle.debugger.specs.declared.points.Point.{Point}
use Rattle.debugger.specs.declared.stop.Cause.{Cause}
use Rattle.debugger.specs.declared.stop.Cause.TheVariants as causes

-- a hart asks for one thing
need_alike : (hart other : HartState) (text : Memory) (need : Need) → other ≡ hart → Needs other (fetched text other.pc) need
    → Needs hart (fetched text hart.pc) need
need_alike hart other text need e n = rw (← e) n

some_hart : (state : Option HartState) (hart other : HartState) → state ≡ Some hart → state ≡ Some other → other ≡ hart
some_hart state hart other a b = cc

asks_once : (state : Option HartState) (text : Memory) (hart : HartState) (need : Need) (line : ℕ) → state ≡ Some hart
    → Needs hart (fetched text hart.pc) need → (a : Accesses state text line) → need ≡ Ask a.request
asks_once state text hart need line there needs a =
    needs_once hart (fetched text hart.pc) need (Ask a.request) needs
    (need_alike hart a.hart text (Ask a.request) (some_hart state hart a.hart there a.there) a.asks)

pub asks_nothing : (state : Option HartState) (text : Memory) (hart : HartState) (need : Need) → state ≡ Some hart
    → Needs hart (fetched text hart.pc) need → ((request : Request) → need ≡ Ask request → ⊥) → (line : ℕ) → Accesses state text line → ⊥
asks_nothing state text hart need there needs other line a = other a.request (asks_once state text hart need line there needs a)

asks_cases : (state : Option HartState) (text : Memory) (hart : HartState) (request : Request) (line : Option ℕ) → state ≡ Some hart
    → hart.status ≡ Running → Needs hart (fetched text hart.pc) (Ask request) → touched_line request ≡ line → AsksFor state text line
asks_cases state text hart request None there running needs touched = λ line a.
    let once : Ask request ≡ Ask a.request = asks_once state text hart (Ask request) line there needs a in
    let same : request ≡ a.request = cc in
    let told : touched_line a.request ≡ None = ap (λ (r : Request). touched_line r) (sym same) ∙ touched in
    let asked : touched_line a.request ≡ Some line = a.touched in
    absurd (cc)
asks_cases state text hart request (Some line) there running needs touched = (
  record { hart = hart; request = request; there = there; running = running; asks = needs; touched = touched },
  λ other a.
      let once : Ask request ≡ Ask a.request = asks_once state text hart (Ask request) other there needs a in
      let same : request ≡ a.request = cc in
      let told : touched_line a.request ≡ Some line = ap (λ (r : Request). touched_line r) (sym same) ∙ touched in
      let asked : touched_line a.request ≡ Some other = a.touched in
      cc,
)

needs_there : (m : MachineView) (h : ℕ) (state : Option HartState) (hart : HartState) (need : Need) → state ≡ Some hart
    → NeedsAt m h state need → Needs hart (fetched (copy_of m h) hart.pc) need
needs_there m h state hart need there needs = rw there at needs

pub asks_there : (m n : MachineView) (h : ℕ) (hart : HartState) (request : Request) (line : Option ℕ) → m ≡ n
    → slice_get n.harts h ≡ Some hart → hart.status ≡ Running → NeedsAt m h (slice_get m.harts h) (Ask request)
    → line ≡ touched_line request → AsksFor (slice_get n.harts h) (copy_of n h) line
asks_there m n h hart request line e there running needs told =
    let asks : NeedsAt n h (slice_get n.harts h) (Ask request) = rw e at needs in
    asks_cases (slice_get n.harts h) (copy_of n h) hart request line there running
    (needs_there n h (slice_get n.harts h) hart (Ask request) there asks) (sym told)

pub asks_for_nothing : (m n : MachineView) (h : ℕ) (hart : HartState) (need : Need) → m ≡ n → slice_get n.harts h ≡ Some hart
    → NeedsAt m h (slice_get m.harts h) need → ((request : Request) → need ≡ Ask request → ⊥)
    → (line : ℕ) → Accesses (slice_get n.harts h) (copy_of n h) line → ⊥
asks_for_nothing m n h hart need e there needs other =
    let asks : NeedsAt n h (slice_get n.harts h) need = rw e at needs in
    asks_nothing (slice_get n.harts h) (copy_of n h) hart need there (needs_there n h (slice_get n.harts h) hart need there asks) other

-- what no hart is watched for
pub unwatched_line : (points : List Point) (state : Option HartState) (text : Memory) (line : ℕ)
    → ((other : ℕ) → Accesses state text other → other ≡ line) → has_watch points line ≡ false
    → AsksForWatched points state text None
unwatched_line points state text line only off = λ other a on.
    let same : other ≡ line = only other a in
    let told : has_watch points other ≡ false = ap (λ (n : ℕ). has_watch points n) same ∙ off in
    let is : has_watch points other ≡ true = on in
    absurd (cc)

same_hart : (step : Step) (h hart : ℕ) → step ≡ Hart h → step ≡ Hart hart → hart ≡ h
same_hart step h hart a b = cc

pub unbroken_hart : (points : List Point) (harts : List HartState) (step : Step) (h : ℕ) → step ≡ Hart h
    → ((pc : ℕ) → IsAtBreak points (slice_get harts h) pc → ⊥) → IsUnbroken points harts step
unbroken_hart points harts step h is none = λ hart pc other b.
    let same : hart ≡ h = same_hart step h hart is other in none pc (rw same at b)

pub unwatched_hart : (points : List Point) (m : MachineView) (step : Step) (h : ℕ) → step ≡ Hart h
    → AsksForWatched points (slice_get m.harts h) (copy_of m h) None → WatchesOn points m step None
unwatched_hart points m step h is none = λ hart line other a.
    let same : hart ≡ h = same_hart step h hart is other in none line (rw same at a)

-- a step that its hart goes on after is Done, and only such a step
done_between : (before after : Status) → outcomes.Done ≡ outcome_between before after → after ≡ Running
done_between Running Running e = refl
done_between Running (statuses.Exited code) e = cc
done_between Running (statuses.Trapped trap) e = cc
done_between (statuses.Exited code) after e = cc
done_between (statuses.Trapped trap) after e = cc

done_runs : (before after : Option HartState) → outcomes.Done ≡ hart_outcome before after → IsRunning after
done_runs (Some s) (Some t) e = done_between s.status t.status e
done_runs None after e = absurd (cc)
done_runs (Some s) None e = absurd (cc)

runs_between : (before after : Status) → before ≡ Running → after ≡ Running → outcome_between before after ≡ outcomes.Done
runs_between before after a b = rw (a, b) refl

runs_some : (s : HartState) (after : Option HartState) → s.status ≡ Running → IsRunning after → hart_outcome (Some s) after ≡ outcomes.Done
runs_some s None a b = absurd b
runs_some s (Some t) a b = runs_between s.status t.status a b

runs_done : (before after : Option HartState) (s : HartState) → before ≡ Some s → s.status ≡ Running → IsRunning after
    → hart_outcome before after ≡ outcomes.Done
runs_done before after s there a b = rw there (runs_some s after a b)

outcome_alike : (old new : List HartState) (step : Step) (hart : ℕ) → step ≡ Hart hart
    → outcome_after old new step ≡ hart_outcome (slice_get old hart) (slice_get new hart)
outcome_alike old new step hart e = rw e refl

-- a step whose hart touched a line and went on was Done
touch_done : (points : List Point) (old new : MachineView) (step : Step) (outcome : Outcome) (hart line : ℕ) → step ≡ Hart hart
    → outcome ≡ outcome_after old.harts new.harts step
    → Touches points (slice_get old.harts hart) (copy_of old hart) (slice_get new.harts hart) line → outcome ≡ outcomes.Done
touch_done points old new step outcome hart line is told t =
    told ∙ outcome_alike old.harts new.harts step hart is
    ∙ runs_done (slice_get old.harts hart) (slice_get new.harts hart) t.accesses.hart t.accesses.there t.accesses.running t.goes_on

module _ (old new : DebuggerView) (step : Step) (points : new.points ≡ old.points) (runs : Runs old.machine new.machine (step ∷ [])) where
  untouched_else : (outcome : Outcome) → outcome ≡ outcome_after old.machine.harts new.machine.harts step → (outcome ≡ outcomes.Done → ⊥)
      → IsStoppedBehind old step new None
  untouched_else outcome told other = record {
    points = points;
    runs = runs;
    untouched = λ hart line is t. other (touch_done old.points old.machine new.machine step outcome hart line is told t);
  }

  pub stopped_behind : (watch : Option Cause) (outcome : Outcome) → WatchesOn old.points old.machine step watch
      → outcome ≡ outcome_after old.machine.harts new.machine.harts step → IsStoppedBehind old step new (met_by watch outcome)
  stopped_behind None outcomes.Done w told = record {
    points = points;
    runs = runs;
    untouched = λ hart line is t. w hart line is t.accesses t.watched;
  }
  stopped_behind (Some (causes.Watch hart line)) outcomes.Done w told = record {
    points = points;
    runs = runs;
    is_hart = w.0;
    touches = record {
      accesses = w.1;
      goes_on = done_runs (slice_get old.machine.harts hart) (slice_get new.machine.harts hart)
          (told ∙ outcome_alike old.machine.harts new.machine.harts step hart w.0);
      watched = w.2;
    };
  }
  stopped_behind (Some (causes.Break hart pc)) outcomes.Done w told = absurd w
  stopped_behind (Some causes.End) outcomes.Done w told = absurd w
  stopped_behind watch (outcomes.Exited code) w told = untouched_else (outcomes.Exited code) told (λ e. cc)
  stopped_behind watch (outcomes.Trapped trap) w told = untouched_else (outcomes.Trapped trap) told (λ e. cc)
  stopped_behind watch outcomes.Stopped w told = untouched_else outcomes.Stopped told (λ e. cc)

  pub stopped_by : (watch found : Option Cause) (outcome : Outcome) → WatchesOn old.points old.machine step watch
      → outcome ≡ outcome_after old.machine.harts new.machine.harts step → found ≡ met_by watch outcome → IsStoppedBehind old step new found
  stopped_by watch found outcome w told e = rw e (stopped_behind watch outcome w told)
