-- How many harts share a memory, and how many lines its cache has room for; and why a start is refused.
use Rattle.std.specs.Prelude.{◌≡◌, ◌⊎◌, ◌<◌, ◌≤◌, ℕ}
use Rattle.machine.specs.declared.shared_memory.fault.StepFault.{StepFault}
use Rattle.machine.specs.declared.shared_memory.fault.StepFault.TheVariants.{NoSuchHart, NoSuchLine, TraceFull, Memory, OutOfLimits}
use Rattle.machine.specs.declared.shared_memory.limits.TheConstants.{MAX_CAPACITY, MAX_HARTS}

-- one to eight harts, and a cache of 1 to 16,384 lines
pub record AreWithinLimits (harts capacity : ℕ) : Type 0 where
  pub some_harts : 1 ≤ harts
  pub few_harts : harts ≤ MAX_HARTS
  pub some_lines : 1 ≤ capacity
  pub few_lines : capacity ≤ MAX_CAPACITY

-- the number of harts is outside its limits, or else that of the cache's lines
abbrev pub AreOutsideLimits : ℕ → ℕ → StepFault → Type 0
AreOutsideLimits harts capacity NoSuchHart = (harts < 1) ⊎ (MAX_HARTS < harts)
AreOutsideLimits harts capacity OutOfLimits = (1 ≤ harts) × (harts ≤ MAX_HARTS) × ((capacity < 1) ⊎ (MAX_CAPACITY < capacity))
AreOutsideLimits harts capacity NoSuchLine = ⊥
AreOutsideLimits harts capacity TraceFull = ⊥
AreOutsideLimits harts capacity Memory = ⊥

-- there is no start: a number is outside its limits; or both are within them, and memory was refused
abbrev pub RefusesStart : ℕ → ℕ → StepFault → Type 0
RefusesStart harts capacity fault = AreOutsideLimits harts capacity fault ⊎ (AreWithinLimits harts capacity × (fault ≡ Memory))
