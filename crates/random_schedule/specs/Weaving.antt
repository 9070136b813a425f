-- A schedule's steps with evictions among them.
use Rattle.std.specs.Prelude.{ℕ, ◌+◌, ◌==◌, List, [], ◌∷◌, ◌++◌, filter, map}
use Rattle.random_schedule.specs.declared.evictions.Eviction.{Eviction}
use Rattle.machine.specs.declared.schedule.items.Step.{Step}
use Rattle.machine.specs.declared.schedule.items.Step.TheVariants.{Hart, Evict}

-- of these evictions those right after a hart step, which is named by the number of hart steps through it
abbrev pub those_after : ℕ → List Eviction → List Eviction
those_after step evictions = filter (λ eviction. eviction.step == step) evictions

abbrev pub eviction_steps : List Eviction → List Step
eviction_steps evictions = map (λ eviction. Evict eviction.line) evictions

-- steps before which there are so many hart steps, each hart step with the evictions right after it, in order
abbrev pub with_evictions : ℕ → List Eviction → List Step → List Step
with_evictions made evictions [] = []
with_evictions made evictions (Hart h ∷ steps) =
    Hart h ∷ (eviction_steps (those_after (made + 1) evictions) ++ with_evictions (made + 1) evictions steps)
with_evictions made evictions (Evict line ∷ steps) = Evict line ∷ with_evictions made evictions steps
