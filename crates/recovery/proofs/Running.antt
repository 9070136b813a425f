-- Steps one after another are a run.
use Rattle.std.proofs.Common.{◌≡◌, ℕ, zero, suc, ◌+◌, ◌-◌, ◌<◌, ◌≤◌, List, Bool, true, false, Some, length, slice_get, refl, ap, ◌∙◌, inl, inr, arith}
use Rattle.hart.specs.declared.state.Status.{Status}
use Rattle.hart.specs.declared.state.Status.TheVariants.{Running, Exited, Trapped}
use Rattle.machine.specs.declared.schedule.items.Step.TheVariants.{Hart}
use Rattle.machine.specs.Replies.{trace_in}
use Rattle.machine.specs.Run.{Config, StepsTo}
use Rattle.machine.specs.Stops.{has_stopped}
use Rattle.recovery.specs.Recovery.{RunsFor}
use Rattle.recovery.proofs.Limited.{goes_on, stays}
use Rattle.recovery.specs.Engine.{Goes, IsKept, Runs}
use Rattle.recovery.specs.declared.engine.Engine.{Engine}

pub runs_more : (old middle new : Engine) (image : List (List ℕ)) (made : ℕ) → Runs old middle image made false → Goes middle new image true
    → Runs old new image (made + 1) false
runs_more old middle new image made before goes = record {
  runs = λ c stands.
      let (d, runs, middle_stands) = before.runs c stands in
      let (e, step, new_stands) = goes.1 d middle_stands in
      (e, goes_on c d e made 1 false runs (e, step, inl (new_stands.few, (refl, refl))), new_stands);
  keeps = goes.0 ∙ before.keeps;
}

runs_left : (c d e : Config) (made steps : ℕ) (full : Bool) → made ≤ steps → RunsFor c made d false → RunsFor d (steps - made) e full → RunsFor c steps e full
runs_left c d e made steps full fits first rest =
    let all : made + (steps - made) ≡ steps = omega arith in
    rw all at (goes_on c d e made (steps - made) full first rest)

full_there : (d e : Config) (left : ℕ) → 0 < left → StepsTo d (Hart 0) e → 65536 < length (trace_in e.common) → RunsFor d left d true
full_there d e zero some step over = absurd (omega arith)
full_there d e (suc left) some step over = (e, step, inr (over, refl, refl))

pub runs_full : (old middle new : Engine) (image : List (List ℕ)) (made steps : ℕ) → made < steps → Runs old middle image made false → Goes middle new image false
    → Runs old new image steps true
runs_full old middle new image made steps fits before (same, goes) = record {
  runs = λ c stands.
      let (d, runs, middle_stands) = before.runs c stands in
      let (e, step, over) = goes d middle_stands in
      (d, runs_left c d d made steps true (omega arith) runs (full_there d e (steps - made) (omega arith) step over), rw same middle_stands);
  keeps = ap (λ (engine : Engine). engine.world.keeps) same ∙ before.keeps;
}

not_running : (status : Status) → has_stopped status ≡ true → status ≡ Running → ⊥
not_running Running e same = cc
not_running (Exited code) e same = cc
not_running (Trapped trap) e same = cc

pub runs_stopped : (old middle : Engine) (image : List (List ℕ)) (made steps : ℕ) → made ≤ steps → Runs old middle image made false
    → has_stopped middle.hart.status ≡ true → Runs old middle image steps false
runs_stopped old middle image made steps fits before stopped = record {
  runs = λ c stands.
      let (d, runs, middle_stands) = before.runs c stands in
      let there : slice_get d.harts 0 ≡ Some middle.hart = rw middle_stands.harts refl in (
        d,
        runs_left c d d made steps false fits runs
            (stays d middle.hart (steps - made) there (not_running middle.hart.status stopped) middle_stands.few),
        middle_stands,
      );
  keeps = before.keeps;
}

pub kept_more : (old middle new : Engine) → IsKept old middle → IsKept middle new → IsKept old new
kept_more old middle new a b = record {
  held = record { program = b.held.program ∙ a.held.program; count = b.held.count ∙ a.held.count };
  start = b.start ∙ a.start;
}
