-- The run of one hart alone, by the schedule that is kept of it.
use Rattle.std.proofs.Common.{◌≡◌, ◌⊎◌, ℕ, true, List, Option, Some, None, replicate, subst, sym, ap, inl, inr, ◌∙◌}
use Rattle.std.proofs.lemmas.List.{append-nil}
use Rattle.hart.specs.declared.state.HartState.{HartState}
use Rattle.machine.specs.Represents.{IsRunning, MachineView}
use Rattle.machine.specs.Stops.{is_stopped}
use Rattle.machine.specs.Traced.{Traces, steps_alone}
use Rattle.machine.specs.declared.run_trace.traced_event.EventPlace.{EventPlace}
use Rattle.machine.specs.Steps.{all_steps}
use Rattle.machine.specs.declared.schedule.items.Item.{Item}
use Rattle.machine.specs.declared.schedule.items.Step.{Step}
use Rattle.machine.specs.declared.schedule.items.Step.TheVariants.{Hart}

pub traces_alone : (old new : MachineView) (items : List Item) (made : ℕ) (places : List EventPlace) → items ≡ steps_alone 0 made
    → Traces old new (replicate made (Hart 0)) places → Traces old new (all_steps items) places
traces_alone old new items made places are traces =
    subst (λ (steps : List Step). Traces old new steps places)
    (sym (ap (λ (l : List Item). all_steps l) are ∙ append-nil (replicate made (Hart 0)))) traces

-- a hart that runs at the end has made all its steps
pub runs_to_most : (found : Option HartState) (made most : ℕ) → (is_stopped found ≡ true) ⊎ (made ≡ most) → IsRunning found → made ≡ most
runs_to_most None made most ended running = absurd running
runs_to_most (Some s) made most (inl stopped) running = absurd (cc (rw running at stopped))
runs_to_most (Some s) made most (inr all) running = all
