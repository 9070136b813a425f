-- Each cut of a moment of a recorded run has a schedule.
use Rattle.std.proofs.Common.{◌≡◌, ℕ, zero, suc, ◌+◌, ◌-◌, ◌<◌, ◌≤◌, List, [], ◌++◌, Option, length, take, drop, min, max, get_or, refl, ap, ◌∙◌, subst, arith}
use Rattle.std.specs.Prelude.{slice_index_or}
use Rattle.std.proofs.lemmas.List.{get_or_default}
use Rattle.store_trace.specs.Cut.{IsCut, number_in}
use Rattle.store_trace.specs.History.{at_moment}
use Rattle.store_trace.specs.declared.event.Event.{Event}
use Rattle.store_trace.specs.declared.event.Event.TheVariants.{Fence}
use Rattle.program.specs.Sections.{Sections}
use Rattle.machine.specs.declared.schedule.items.Step.{Step}
use Rattle.machine.specs.Persisted.{persisted}
use Rattle.machine.specs.Replies.{trace_in}
use Rattle.machine.specs.declared.shared_memory.history.Entry.{Entry}
use Rattle.machine.specs.Recorded.{RecordedView, Records}
use Rattle.machine.specs.Run.{Config, started}
use Rattle.witness.specs.Explains.{Explains, steps_by}
use Rattle.witness.specs.Walking.{Follows, eviction_of, line_due}
use Rattle.witness.proofs.Following.{further_from, further_steps, steps_next, steps_rise, with_eviction}
use Rattle.witness.proofs.Leaving.{explains_cut}
use Rattle.witness.proofs.RunFrom.{recorded_steps}

-- a schedule that follows the events up to moment i, by hart steps none of which is past the last
record IsThere (recorded : RecordedView) (k : ℕ → ℕ) (last i : ℕ) : Type 0 where
  made : ℕ
  steps : List Step
  follows : Follows recorded k i made steps
  below : made ≤ last
  reached : min (steps_by recorded.steps i) last ≤ made

first_there : (recorded : RecordedView) (k : ℕ → ℕ) (last : ℕ) → IsThere recorded k last 0
first_there recorded k last = record {
  made = 0;
  steps = [];
  follows = record {
    hart_steps_are = refl;
    follows = λ c start r. record {
      made_is = refl;
      evictions = tt;
      trace = λ d run. ap (λ (x : Config). trace_in x.common) run ∙ start.trace;
      persisted_is = λ d run. ap (λ (x : Config). persisted x.common.history) run ∙ ap (λ (entries : List Entry). persisted entries) start.history;
    };
  };
  below = omega arith;
  reached = omega arith;
}

further_there : (recorded : RecordedView) (k : ℕ → ℕ) (moment last i made now : ℕ) (event : Event) (steps : List Step) (o : Option ℕ)
    → length recorded.steps ≡ length recorded.trace → moment ≤ length recorded.trace → i < moment → last ≡ steps_by recorded.steps moment
    → get_or recorded.trace i event ≡ event → line_due k (at_moment recorded.trace i) event ≡ o
    → made ≤ last → now ≡ max made (min (slice_index_or recorded.steps i 0) last)
    → Follows recorded k i made steps → IsThere recorded k last (i + 1)
further_there recorded k moment last i made now event steps o each few early last_is is due below now_is so_far =
    let next = steps_next recorded.steps i in
    record {
      made = now;
      steps = (steps ++ take (now - made) (drop made (recorded_steps recorded))) ++ eviction_of o;
      follows = record {
        hart_steps_are = with_eviction (steps ++ take (now - made) (drop made (recorded_steps recorded))) o
            ∙ further_steps recorded made (now - made) now steps (omega (arith, now_is)) so_far.hart_steps_are;
        follows = λ c start r.
            let rise = steps_rise c recorded (i + 1) moment r each (omega arith) few in
            further_from c recorded k last i made now event steps o r each (omega arith) (omega arith) is due (so_far.follows c start r)
            so_far.hart_steps_are now_is;
      };
      below = omega arith;
      reached = omega arith;
    }

next_there : (recorded : RecordedView) (k : ℕ → ℕ) (moment last i : ℕ) → length recorded.steps ≡ length recorded.trace
    → moment ≤ length recorded.trace → i < moment → last ≡ steps_by recorded.steps moment → IsThere recorded k last i → IsThere recorded k last (i + 1)
next_there recorded k moment last i each few early last_is there =
    further_there recorded k moment last i there.made (max there.made (min (slice_index_or recorded.steps i 0) last)) (get_or recorded.trace i (Fence 0)) there.steps
    (line_due k (at_moment recorded.trace i) (get_or recorded.trace i (Fence 0))) each few early last_is
    (get_or_default recorded.trace i (get_or recorded.trace i (Fence 0)) (Fence 0) (omega arith)) refl there.below refl there.follows

all_there : (recorded : RecordedView) (k : ℕ → ℕ) (moment last : ℕ) → length recorded.steps ≡ length recorded.trace
    → moment ≤ length recorded.trace → last ≡ steps_by recorded.steps moment → (i : ℕ) → i ≤ moment → IsThere recorded k last i
all_there recorded k moment last each few last_is zero within = first_there recorded k last
all_there recorded k moment last each few last_is (suc i) within =
    let one : i + 1 ≡ suc i = omega arith in
    subst (λ (n : ℕ). IsThere recorded k last n) one
    (next_there recorded k moment last i each few (omega (arith, within)) last_is (all_there recorded k moment last each few last_is i (omega (arith, within))))

pub cut_explained : (program : Sections) (lines : List (List ℕ)) (harts : ℕ) (recorded : RecordedView) (moment : ℕ) (cut : List (ℕ × ℕ))
    → Records (started program lines harts) recorded → length recorded.steps ≡ length recorded.trace → moment ≤ length recorded.trace
    → IsCut (at_moment recorded.trace moment) cut → (steps : List Step) × Explains recorded moment cut steps
cut_explained program lines harts recorded moment cut r each within is =
    let there = all_there recorded (number_in cut) moment (steps_by recorded.steps moment) each within refl moment (omega arith) in
    let below = there.below in
    let reached = there.reached in
    let all : there.made ≡ steps_by recorded.steps moment = omega arith in
    (there.steps, explains_cut recorded moment cut there.steps is (subst (λ (n : ℕ). Follows recorded (number_in cut) moment n there.steps) all there.follows))
