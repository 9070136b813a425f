-- Causes to stop, from one step of a run to the next.
use Rattle.std.proofs.Common.{◌≡◌, ℕ, zero, suc, ◌<◌, List, [], ◌∷◌, ◌++◌, length, take, Some, slice_get, ◌∙◌, arith}
use Rattle.machine.specs.declared.schedule.items.Step.{Step}
use Rattle.machine.specs.declared.schedule.items.Step.TheVariants.{Hart}
use Rattle.machine.specs.Run.{Config, RunsTo, StepsTo}
use Rattle.machine.proofs.Determined.{steps_once}
use Rattle.debugger.specs.StopPoint.{HasCause, IsAtBreak, IsLeastStop, Touches, TouchesAt, text_at}
use Rattle.debugger.specs.Walks.{IsUnbroken, MovesTo, Passes}
use Rattle.debugger.specs.declared.points.Point.{Point}
use Rattle.debugger.specs.declared.stop.Cause.{Cause}
use Rattle.debugger.specs.declared.stop.Cause.TheVariants as causes

-- there is no cause to stop after any of the first steps
abbrev pub IsQuiet : List Point → Config → List Step → ℕ → Type 0
IsQuiet points c steps count = (k : ℕ) (cause : Cause) → k < count → HasCause points c steps k cause → ⊥

same_run : (c d e : Config) (steps : List Step) → c ≡ d → RunsTo c steps e → RunsTo d steps e
same_run c d e steps same run = rw (← same) run

same_touch : (points : List Point) (b c d e : Config) (hart line : ℕ) → b ≡ c → d ≡ e
    → Touches points (slice_get b.harts hart) (text_at b hart) (slice_get d.harts hart) line
    → Touches points (slice_get c.harts hart) (text_at c hart) (slice_get e.harts hart) line
same_touch points b c d e hart line before after t = rw (← before, ← after) t

same_break : (points : List Point) (c d : Config) (hart pc : ℕ) → c ≡ d
    → IsAtBreak points (slice_get c.harts hart) pc → IsAtBreak points (slice_get d.harts hart) pc
same_break points c d hart pc e b = rw (← e) b

stepped_alike : (c d e : Config) (step other : Step) → step ≡ other → StepsTo c other d → StepsTo c step e → d ≡ e
stepped_alike c d e step other same x y = steps_once c other d e x (rw (← same) y)

first_is : (step other : Step) → Some step ≡ Some other → step ≡ other
first_is step other e = cc

-- a cause in a run is one in what follows its first step, a step earlier, and the other way
module _ (points : List Point) (c d : Config) (step : Step) (makes : StepsTo c step d) (steps : List Step) (k : ℕ) where
  pub later : (cause : Cause) → HasCause points c (step ∷ steps) (suc k) cause → HasCause points d steps k cause
  later (causes.Watch hart line) h = record {
    before = h.before;
    after = h.after;
    runs = same_run h.runs.0 d h.before (take k steps) (steps_once c step h.runs.0 d h.runs.1 makes) h.runs.2;
    step = h.step;
    makes = h.makes;
    touches = h.touches;
  }
  later (causes.Break hart pc) h = record {
    after = h.after;
    runs = same_run h.runs.0 d h.after (take (suc k) steps) (steps_once c step h.runs.0 d h.runs.1 makes) h.runs.2;
    next = h.next;
    broken = h.broken;
  }
  later causes.End h = omega arith

  pub sooner : (cause : Cause) → HasCause points d steps k cause → HasCause points c (step ∷ steps) (suc k) cause
  sooner (causes.Watch hart line) h = record {
    before = h.before;
    after = h.after;
    runs = (d, makes, h.runs);
    step = h.step;
    makes = h.makes;
    touches = h.touches;
  }
  sooner (causes.Break hart pc) h = record { after = h.after; runs = (d, makes, h.runs); next = h.next; broken = h.broken }
  sooner causes.End h = omega arith

-- behind a step that touches no watched line
pub untouched : (points : List Point) (c d : Config) (step : Step) (steps : List Step) (hart line : ℕ) → MovesTo points c step d
    → TouchesAt points c (step ∷ steps) 0 hart line → ⊥
untouched points c d step steps hart line moves t =
    let same : step ≡ Hart hart = first_is step (Hart hart) t.step in
    let before : t.before ≡ c = t.runs in
    let makes : StepsTo c (Hart hart) t.after = rw before at t.makes in
    let after : t.after ≡ d = stepped_alike c t.after d step (Hart hart) same makes moves.makes in
    moves.untouched hart line same (same_touch points t.before c t.after d hart line before after t.touches)

-- and where no breakpoint stops before the next one
module _ (points : List Point) (c d : Config) (step next : Step) (steps : List Step) (moves : MovesTo points c step d)
    (unbroken : IsUnbroken points d.harts next) where
  nothing : (cause : Cause) → HasCause points c (step ∷ next ∷ steps) 0 cause → ⊥
  nothing (causes.Watch hart line) h = untouched points c d step (next ∷ steps) hart line moves h
  nothing (causes.Break hart pc) h =
      let same : h.runs.0 ≡ d = steps_once c step h.runs.0 d h.runs.1 moves.makes in
      unbroken hart pc (first_is next (Hart hart) h.next) (same_break points h.after d hart pc (h.runs.2 ∙ same) h.broken)
  nothing causes.End h = absurd (omega arith)

  pub quiet_more : (count : ℕ) → IsQuiet points d (next ∷ steps) count → IsQuiet points c (step ∷ next ∷ steps) (suc count)
  quiet_more count quiet zero cause less h = nothing cause h
  quiet_more count quiet (suc k) cause less h = quiet k cause (omega arith) (later points c d step moves.makes (next ∷ steps) k cause h)

  pub stop_more : (k : ℕ) (cause : Cause) → IsLeastStop points d (next ∷ steps) k cause → IsLeastStop points c (step ∷ next ∷ steps) (suc k) cause
  stop_more k cause stop = record {
    here = sooner points c d step moves.makes (next ∷ steps) k cause stop.here;
    earlier = λ j other less h. quiet_more k stop.earlier j other less h;
    first = λ other lower h. stop.first other lower (later points c d step moves.makes (next ∷ steps) k other h);
  }

-- what such steps carry from the last of them to the first
module _ (points : List Point) (P : Config → List Step → ℕ → Type 0)
    (more : (c d : Config) (step next : Step) (steps : List Step) → MovesTo points c step d → IsUnbroken points d.harts next → (k : ℕ)
    → P d (next ∷ steps) k → P c (step ∷ next ∷ steps) (suc k)) where
  pub carried : (c d e : Config) (first : Step) (made rest : List Step) → MovesTo points c first d → Passes points d made e
      → ((b : Config) (last : Step) → MovesTo points b last e → P b (last ∷ rest) 0) → P c (first ∷ (made ++ rest)) (length made)
  carried c d e first [] rest moves p base = base c first (rw p moves)
  carried c d e first (next ∷ made) rest moves p base =
      more c d first next (made ++ rest) moves p.1 (length made) (carried d p.0 e next made rest p.2 p.3 base)
