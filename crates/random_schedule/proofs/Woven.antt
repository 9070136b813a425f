-- Runs with evictions among their steps.
use Rattle.std.proofs.Common.{zero-add, ◌≡◌, ℕ, suc, ◌+◌, ◌≤◌, List, [], ◌∷◌, ◌++◌, length, take, drop, refl, sym, ap, ◌∙◌, arith, slice_get}
use Rattle.std.proofs.lemmas.List.{length-append, take-append-drop}
use Rattle.std.proofs.lemmas.List.Elements.{All-head, All-tail}
use Rattle.std.proofs.Math.Seq.{take-append_seam}
use Rattle.std.specs.Prelude.{All, Contains}
use Rattle.machine.specs.Replies.{trace_in}
use Rattle.machine.specs.Evicting.{AreAlike}
use Rattle.machine.specs.Run.{Config, RunsTo, StepsTo}
use Rattle.machine.specs.Represents.{IsRunning}
use Rattle.machine.proofs.Evicting.{runs_alike, trace_alike}
use Rattle.machine.specs.Grammar.{hart_steps}
use Rattle.machine.specs.Steps.{all_steps}
use Rattle.machine.specs.declared.schedule.items.Item.{Item}
use Rattle.machine.specs.declared.schedule.items.Step.{Step}
use Rattle.machine.specs.declared.schedule.items.Step.TheVariants.{Hart, Evict}
use Rattle.random_schedule.specs.Interleaves.{Interleaves, stored_lines}
use Rattle.random_schedule.specs.Weaving.{eviction_steps, those_after, with_evictions}
use Rattle.random_schedule.specs.declared.evictions.Eviction.{Eviction}
use Rattle.random_schedule.proofs.Runs.{run_more}
use Rattle.random_schedule.proofs.Weaves.{counted, counted_all, counted_more}

one_step : (c d : Config) (step : Step) → RunsTo c (step ∷ []) d → StepsTo c step d
one_step c d step run = rw run.2 run.1

-- evictions of lines that were stored
pub record AreEvicted (c d : Config) (evictions : List Eviction) : Type 0 where
  pub end : Config
  pub runs : Interleaves d (eviction_steps evictions) end
  pub alike : AreAlike c end

evicted : (c d : Config) (evictions : List Eviction) → AreAlike c d → All (λ (e : Eviction). Contains (stored_lines (trace_in c.common)) e.line) evictions
    → AreEvicted c d evictions
evicted c d [] alike stored = record { end = d; runs = refl; alike = alike }
evicted c d (e ∷ evictions) alike stored =
    let P : Eviction → Type 0 = λ e. Contains (stored_lines (trace_in c.common)) e.line in
    let first = runs_alike c d c [] (Evict e.line ∷ []) alike refl refl in
    let rest = evicted c first.0 evictions first.2 (All-tail P e evictions stored) in
    let there : Contains (stored_lines (trace_in d.common)) e.line = rw (trace_alike c d alike) at (All-head P e evictions stored) in
    record {
      end = rest.end;
      runs = (first.0, there, one_step d first.0 (Evict e.line) first.1, rest.runs);
      alike = rest.alike;
    }

-- the evictions after each step are of lines that were stored by it
abbrev pub AreStored : Config → ℕ → List Step → List Eviction → Type 0
AreStored c made steps evictions = (k : ℕ) (d : Config) → RunsTo c (take k steps) d →
    All (λ (e : Eviction). Contains (stored_lines (trace_in d.common)) e.line) (those_after (counted made (take k steps)) evictions)

pub record WovenRun (d : Config) (made : ℕ) (steps : List Step) (evictions : List Eviction) (end : Config) : Type 0 where
  pub last : Config
  pub runs : Interleaves d (with_evictions made evictions steps) last
  pub alike : AreAlike end last

pub woven_runs : (c d end : Config) (made : ℕ) (steps : List Step) (evictions : List Eviction) → AreAlike c d → Interleaves c steps end
    → AreStored c made steps evictions → WovenRun d made steps evictions end
woven_runs c d end made [] evictions alike run stored = record { last = d; runs = refl; alike = rw run alike }
woven_runs c d end made (Hart h ∷ steps) evictions alike run stored =
    let step = runs_alike c d run.0 (Hart h ∷ []) (Hart h ∷ []) alike refl (run.0, run.2, refl) in
    let here : List Eviction = those_after (made + 1) evictions in
    let gone = evicted run.0 step.0 here step.2 (stored 1 run.0 (run.0, run.2, refl)) in
    let rest = woven_runs run.0 gone.end end (made + 1) steps evictions gone.alike run.3 (λ k e runs. stored (suc k) e (run.0, run.2, runs)) in
    let goes : IsRunning (slice_get d.harts h) = rw alike.harts at run.1 in
    record {
      last = rest.last;
      runs = (step.0, goes, one_step d step.0 (Hart h) step.1, run_more step.0 gone.end rest.last (eviction_steps here) (with_evictions (made + 1) evictions steps) gone.runs rest.runs);
      alike = rest.alike;
    }
woven_runs c d end made (Evict line ∷ steps) evictions alike run stored =
    let step = runs_alike c d run.0 (Evict line ∷ []) (Evict line ∷ []) alike refl (run.0, run.2, refl) in
    let rest = woven_runs run.0 step.0 end made steps evictions step.2 run.3 (λ k e runs. stored (suc k) e (run.0, run.2, runs)) in
    let there : Contains (stored_lines (trace_in d.common)) line = rw (trace_alike c d alike) at run.1 in
    record {
      last = rest.last;
      runs = (step.0, there, one_step d step.0 (Evict line) step.1, rest.runs);
      alike = rest.alike;
    }

-- evictions are no hart steps
counted_evictions : (made : ℕ) (evictions : List Eviction) → counted made (eviction_steps evictions) ≡ made
counted_evictions made [] = refl
counted_evictions made (e ∷ evictions) = counted_evictions made evictions

pub counted_woven : (made : ℕ) (steps : List Step) (evictions : List Eviction) → counted made (with_evictions made evictions steps) ≡ counted made steps
counted_woven made [] evictions = refl
counted_woven made (Hart h ∷ steps) evictions =
    let here : List Eviction = those_after (made + 1) evictions in
    counted_more (made + 1) (eviction_steps here) (with_evictions (made + 1) evictions steps)
    ∙ ap (λ (n : ℕ). counted n (with_evictions (made + 1) evictions steps)) (counted_evictions (made + 1) here)
    ∙ counted_woven (made + 1) steps evictions
counted_woven made (Evict line ∷ steps) evictions = counted_woven made steps evictions

pub woven_harts : (woven items : List Item) (evictions : List Eviction) → all_steps woven ≡ with_evictions 0 evictions (all_steps items)
    → hart_steps woven ≡ hart_steps items
woven_harts woven items evictions is =
    sym (counted_all 0 woven ∙ zero-add (hart_steps woven)) ∙ ap (λ (s : List Step). counted 0 s) is ∙ counted_woven 0 (all_steps items) evictions
    ∙ counted_all 0 items ∙ zero-add (hart_steps items)

-- where all steps are those of harts, so are the first ones
counted_few : (made : ℕ) (steps : List Step) → counted made steps ≤ made + length steps
counted_few made [] = omega arith
counted_few made (Hart h ∷ steps) = let rest = counted_few (made + 1) steps in omega arith
counted_few made (Evict line ∷ steps) = let rest = counted_few made steps in omega arith

pub counted_front : (steps : List Step) (k : ℕ) → counted 0 steps ≡ length steps → counted 0 (take k steps) ≡ length (take k steps)
counted_front steps k all =
    let front : List Step = take k steps in
    let back : List Step = drop k steps in
    let parts : front ++ back ≡ steps = take-append-drop k steps in
    let sum : counted 0 steps ≡ counted (counted 0 front) back = ap (λ (s : List Step). counted 0 s) (sym parts) ∙ counted_more 0 front back in
    let long : length steps ≡ length front + length back = ap (λ (s : List Step). length s) (sym parts) ∙ length-append front back in
    let few = counted_few 0 front in
    let rest = counted_few (counted 0 front) back in
    omega arith

pub front_again : (steps : List Step) (k : ℕ) → take (length (take k steps)) steps ≡ take k steps
front_again steps k =
    ap (λ (s : List Step). take (length (take k steps)) s) (sym (take-append-drop k steps)) ∙ take-append_seam (take k steps) (drop k steps)
