-- Rules of turns: which hart may make a step after which events. `allows events h` says that hart h may make one after these events.
use Rattle.std.specs.Prelude.{◌≡◌, ◌⊎◌, ◌++◌, [], ◌∷◌, ℕ, List}
use Rattle.machine.specs.Replies.{trace_in}
use Rattle.machine.specs.Run.{Config, RunsTo}
use Rattle.machine.specs.declared.schedule.items.Step.{Step}
use Rattle.machine.specs.declared.schedule.items.Step.TheVariants.{Hart}
use Rattle.store_trace.specs.declared.event.Event.{Event}
use Rattle.schedule_states.specs.declared.claims.ClaimedLine.{ClaimedLine}

-- each step of a hart of the schedule is allowed after the events before it
abbrev pub KeepsTo : (List Event → ℕ → Type 0) → Config → List Step → Type 0
KeepsTo allows start steps = (before after : List Step) (h : ℕ) (c : Config) → steps ≡ before ++ Hart h ∷ after → RunsTo start before c → allows (trace_in c.common) h

-- hart h may make a step after whatever events this is kept of
abbrev pub MayGo : {T : Type 0} → (T → List Event → Type 0) → (List Event → ℕ → Type 0) → T → ℕ → Type 0
MayGo stands allows t h = (events : List Event) → stands t events → allows events h

-- any hart may always make a step where something is claimed of lines
abbrev pub MayClaim : (List Event → ℕ → Type 0) → List ClaimedLine → Type 0
MayClaim allows claims = (claims ≡ []) ⊎ ((events : List Event) (h : ℕ) → allows events h)

-- it may make none
abbrev pub MayNotGo : {T : Type 0} → (T → List Event → Type 0) → (List Event → ℕ → Type 0) → T → ℕ → Type 0
MayNotGo stands allows t h = (events : List Event) → stands t events → ¬ allows events h
