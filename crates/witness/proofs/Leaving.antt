-- What a schedule that follows the events up to the moment leaves.
use Rattle.std.proofs.Common.{◌≡◌, ℕ, ◌<◌, ◌≤◌, List, All, length, take, refl, sym, ap, ◌∙◌, arith}
use Rattle.store_trace.specs.Cut.{IsCut, IsCutImage, number_in}
use Rattle.store_trace.specs.Image.{image}
use Rattle.store_trace.specs.Schedule.{explained}
use Rattle.store_trace.specs.WrittenBack.{written_back}
use Rattle.store_trace.specs.declared.crash_model.step.PersistenceStep.{PersistenceStep}
use Rattle.store_trace.proofs.Explained.{explained_is_of_harts, explained_leaves, image_without_evictions}
use Rattle.store_trace.proofs.Images.{image_from_lines, image_same}
use Rattle.store_trace.proofs.Lines.{within_from_cut}
use Rattle.clean_fence.proofs.Views.{leaves_cut as cache_leaves_cut}
use Rattle.clean_fence.specs.Rules.{PmView}
use Rattle.clean_fence.specs.Represents.{AreAmong, Represents as CacheRepresents}
use Rattle.std.proofs.lemmas.List.Elements.{All-take}
use Rattle.machine.specs.Replies.{trace_in}
use Rattle.machine.proofs.Shown.{leaves_cut}
use Rattle.store_trace.specs.History.{at_moment, history}
use Rattle.store_trace.specs.TraceView.{NamesLine}
use Rattle.crash_image.proofs.Stored.{cut_below}
use Rattle.machine.specs.declared.schedule.items.Step.{Step}
use Rattle.machine.specs.Persisted.{persisted, touched}
use Rattle.machine.specs.Evicting.{hart_steps}
use Rattle.machine.specs.Recorded.{RecordedView, Records}
use Rattle.machine.specs.Run.{Config, started}
use Rattle.machine.specs.Represents.{MachineView, Represents}
use Rattle.witness.specs.Explains.{Explains, Leaves, steps_by}
use Rattle.witness.specs.Walking.{Follows, IsStart}
use Rattle.witness.proofs.Following.{split_in_time}
use Rattle.witness.proofs.HartRuns.{run_start}
use Rattle.witness.proofs.RunFrom.{first_runs}

-- the medium behind the cache of a machine is the image of a cut of the events of what it represents
pub leaves_a_cut : (machine : MachineView) (c : Config) → Represents machine c
    → IsCutImage c.common.start (history (trace_in c.common)) machine.shared.cache.lines
leaves_a_cut machine c stands =
    leaves_cut machine.shared machine.shared.cache.lines (λ start p. cache_leaves_cut start p machine.shared.cache) c.common stands.shared

-- evictions that leave each line at its number leave the cut's image
image_by : (start : List (List ℕ)) (p : List PersistenceStep) (k numbers : ℕ → ℕ)
    → ((l : ℕ) → written_back l (explained k p) ≡ numbers l)
    → image start (λ l. written_back l (explained k p)) (explained k p) ≡ image start numbers p
image_by start p k numbers leaves =
    image_same start (λ l. written_back l (explained k p)) numbers (explained k p) leaves
    ∙ sym (image_without_evictions start numbers (explained k p))
    ∙ ap (λ (q : List PersistenceStep). image start numbers q) (explained_is_of_harts p k)
    ∙ image_without_evictions start numbers p

-- the medium behind a cache that represents such steps is the cut's image
image_left : (start : List (List ℕ)) (p : List PersistenceStep) (k numbers : ℕ → ℕ) (cache : PmView)
    → ((l : ℕ) → written_back l (explained k p) ≡ numbers l)
    → CacheRepresents start (explained k p) cache → cache.lines ≡ image start numbers p
image_left start p k numbers cache leaves s =
    image_from_lines start (λ l. written_back l (explained k p)) (explained k p) cache.lines s.count
    (λ l b. (s.each l b).medium)
    ∙ image_by start p k numbers leaves

machine_left : (c d : Config) (p : List PersistenceStep) (k numbers : ℕ → ℕ) (machine : MachineView) (lines : List ℕ)
    → ((l : ℕ) → written_back l (explained k p) ≡ numbers l)
    → persisted d.common.history ≡ explained k p → d.common.start ≡ c.common.start → Represents machine d
    → length lines ≤ machine.shared.cache.cache.capacity → AreAmong (touched d.common.history) lines
    → machine.shared.cache.lines ≡ image c.common.start numbers p
machine_left c d p k numbers machine lines leaves steps start stands few among =
    let cached = stands.shared.unforced lines few among in
    image_left c.common.start p k numbers machine.shared.cache leaves (rw (steps, start) at cached.represents)

pub leaves_from : (c : Config) (recorded : RecordedView) (moment : ℕ) (cut : List (ℕ × ℕ)) (k : ℕ → ℕ) (steps : List Step)
    → ((l : ℕ) → written_back l (explained k (at_moment recorded.trace moment)) ≡ number_in cut l) → Records c recorded → IsStart c
    → Follows recorded k moment (steps_by recorded.steps moment) steps → Leaves c recorded moment cut k steps
leaves_from c recorded moment cut k steps leaves r start follows =
    let from = follows.follows c start r in
    let run = first_runs c recorded (steps_by recorded.steps moment) steps r follows.hart_steps_are in
    let p : List PersistenceStep = at_moment recorded.trace moment in
    let persists : persisted run.0.common.history ≡ explained k (at_moment recorded.trace moment) = from.persisted_is run.0 run.1 in
    record {
      evictions = λ before after line split. split_in_time recorded k moment 0 (length (hart_steps before)) before after line
          (omega arith) (rw split at from.evictions);
      end = run.0;
      runs = run.1;
      trace = from.trace run.0 run.1;
      persisted_is = persists;
      written = λ l. ap (λ (q : List PersistenceStep). written_back l q) persists ∙ leaves l;
      left = λ machine lines stands few among. machine_left c run.0 p k (number_in cut) machine lines leaves persists
          (run_start c run.0 steps run.1) stands few among;
    }

pub explains_cut : (recorded : RecordedView) (moment : ℕ) (cut : List (ℕ × ℕ)) (steps : List Step)
    → IsCut (at_moment recorded.trace moment) cut
    → Follows recorded (number_in cut) moment (steps_by recorded.steps moment) steps → Explains recorded moment cut steps
explains_cut recorded moment cut steps is follows = record {
  is_cut = is;
  hart_steps_are = follows.hart_steps_are;
  leaves = λ program lines harts r. leaves_from (started program lines harts) recorded moment cut (number_in cut) steps
      (explained_leaves (at_moment recorded.trace moment) (number_in cut) (within_from_cut (at_moment recorded.trace moment) cut is)) r
      (record { history = refl; trace = refl }) follows;
}

-- the lines of a cut of the moment are there
pub cut_lines : (recorded : RecordedView) (moment : ℕ) (cut entries : List (ℕ × ℕ)) → All (NamesLine (length recorded.start)) recorded.trace
    → IsCut (at_moment recorded.trace moment) cut → entries ≡ cut → All (λ entry. entry.0 < length recorded.start) entries
cut_lines recorded moment cut entries named is same =
    rw same (cut_below (length recorded.start) (take moment recorded.trace) cut
    (All-take (λ event. NamesLine (length recorded.start) event) moment recorded.trace named) is)
