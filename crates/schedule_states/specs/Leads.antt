-- The requests that lead to a state.
use Rattle.std.specs.Prelude.{◌<◌, ℕ, List, All}
use Rattle.schedule_states.specs.declared.leads.Lead.{Lead}

-- each of these requests is of one of so many harts
abbrev pub AreOfHarts : ℕ → List ℕ → Type 0
AreOfHarts harts requests = All (λ h. h < harts) requests

-- so is each that first led to a state
abbrev pub AreLeads : ℕ → List Lead → Type 0
AreLeads harts leads = All (λ lead. lead.hart < harts) leads
