-- How many harts share a core, how many lines its cache has room for, and how many steps a seat may make; and why a start is
-- refused.
use Rattle.std.specs.Prelude.{◌≡◌, ◌⊎◌, ◌<◌, ◌≤◌, ℕ}
use Rattle.machine.specs.Limits.{AreOutsideLimits, AreWithinLimits}
use Rattle.machine.specs.declared.shared_memory.fault.StepFault.{StepFault}
use Rattle.machine.specs.declared.shared_memory.fault.StepFault.TheVariants.{Memory, OutOfLimits}

-- harts and lines of the cache within their limits, and a budget of 1 to 500,000,000 steps
abbrev pub AreWithin : ℕ → ℕ → ℕ → Type 0
AreWithin harts capacity budget = AreWithinLimits harts capacity × (1 ≤ budget) × (budget ≤ 500000000)

-- there is no core: the number of harts or that of lines is outside its limits; or both are within them, and the budget isn't; or,
-- with all within their limits, memory was refused
abbrev pub RefusesStart : ℕ → ℕ → ℕ → StepFault → Type 0
RefusesStart harts capacity budget fault =
    AreOutsideLimits harts capacity fault
    ⊎ ((AreWithinLimits harts capacity × ((budget < 1) ⊎ (500000000 < budget)) × (fault ≡ OutOfLimits))
    ⊎ (AreWithin harts capacity budget × (fault ≡ Memory)))
