-- When the states of a search are good. `stands t events` says that t is kept of the operations after these events, `allows events h` that
-- hart h may make a step after them, `good events full image` that the image is good after them, behind which loads find the full one, and
-- `ends status` that a hart may stop like this.
use Rattle.std.specs.Prelude.{◌≡◌, ◌≢◌, ℕ, ◌<◌, List, Some, length, slice_get}
use Rattle.hart.specs.declared.state.HartState.{HartState}
use Rattle.hart.specs.declared.state.Status.{Status}
use Rattle.hart.specs.declared.state.Status.TheVariants.{Running}
use Rattle.machine.specs.Replies.{trace_in}
use Rattle.machine.specs.Run.{Config, RunsTo, started}
use Rattle.machine.specs.declared.schedule.items.Step.{Step}
use Rattle.program.specs.Sections.{Sections}
use Rattle.store_trace.specs.Cut.{IsWithin}
use Rattle.store_trace.specs.History.{history}
use Rattle.store_trace.specs.Image.{image}
use Rattle.store_trace.specs.declared.event.Event.{Event}
use Rattle.schedule_states.specs.Covering.{ReachedView}
use Rattle.schedule_states.specs.Happening.{full_image}
use Rattle.schedule_states.specs.Images.{IsChoice, image_in}
use Rattle.schedule_states.specs.Media.{AreOnMedium, MediaView}
use Rattle.schedule_states.specs.Memories.{MemoryView}
use Rattle.schedule_states.specs.Turns.{KeepsTo}
use Rattle.schedule_states.specs.declared.held_lines.HeldLine.{HeldLine}
use Rattle.schedule_states.specs.declared.moments.Moment.{Moment}
use Rattle.schedule_states.specs.declared.program_state.StateNumbers.{StateNumbers}

-- what was good is good still, as more was noted
abbrev pub StaysGood : (List Event → List (List ℕ) → List (List ℕ) → Type 0) → (List Event → List (List ℕ) → List (List ℕ) → Type 0) → Type 0
StaysGood before after = (events : List Event) (full image : List (List ℕ)) → before events full image → after events full image

-- each image of the memory is good after whatever events this is kept of
abbrev pub AreGoodImages : {T : Type 0} → (T → List Event → Type 0) → (List Event → List (List ℕ) → List (List ℕ) → Type 0) → MemoryView → T → Type 0
AreGoodImages stands good memory t = (events : List Event) (k : ℕ → ℕ) → stands t events → IsChoice memory k → good events (image_in memory (λ l. 0)) (image_in memory k)

-- so of a list of held lines, by its number among these, and of what is kept, by its number
abbrev pub IsGoodMoment : {T : Type 0} → (T → List Event → Type 0) → (List Event → List (List ℕ) → List (List ℕ) → Type 0) → ReachedView T → List (List HeldLine) → ℕ → ℕ → Type 0
IsGoodMoment stands good r lists memory standing = (held : List HeldLine) (t : _) → slice_get lists memory ≡ Some held → slice_get r.standings standing ≡ Some t →
    AreGoodImages stands good (record { start = r.parts.table.start; states = r.parts.table.states; held = held }) t

-- so of each of these, by what is held of the medium alone, whose parts are there
pub record AreGoodMoments {T : Type 0} (stands : T → List Event → Type 0) (good : List Event → List (List ℕ) → List (List ℕ) → Type 0) (r : ReachedView T) (media : MediaView)
    (moments : List Moment) : Type 0 where
  pub held : AreOnMedium r.parts media
  pub each : (n : ℕ) (moment : Moment) → slice_get moments n ≡ Some moment →
      (moment.memory < length media.lists) × (moment.standing < length r.standings) × IsGoodMoment stands good r media.lists moment.memory moment.standing

-- so of the state of this number
abbrev pub IsGoodState : {T : Type 0} → (T → List Event → Type 0) → (List Event → List (List ℕ) → List (List ℕ) → Type 0) → ReachedView T → ℕ → Type 0
IsGoodState stands good r n = (numbers : StateNumbers) → slice_get r.states n ≡ Some numbers → IsGoodMoment stands good r r.parts.lists numbers.memory numbers.standing

-- so of each of the first states
abbrev pub AreGoodBelow : {T : Type 0} → (T → List Event → Type 0) → (List Event → List (List ℕ) → List (List ℕ) → Type 0) → ReachedView T → ℕ → Type 0
AreGoodBelow stands good r count = (n : ℕ) → n < count → IsGoodState stands good r n

-- whether an image is good doesn't depend on what loads find
abbrev pub IgnoresFull : (List Event → List (List ℕ) → List (List ℕ) → Type 0) → Type 0
IgnoresFull good = (events : List Event) (full other image : List (List ℕ)) → good events full image → good events other image

-- whatever a power cut leaves is good
abbrev pub LeavesGood : (List Event → List (List ℕ) → List (List ℕ) → Type 0) → List (List ℕ) → List Event → Type 0
LeavesGood good medium events = (k : ℕ → ℕ) → IsWithin (history events) k → good events (full_image medium events) (image medium k (history events))

-- each hart that has stopped may stop as it did
abbrev pub HaveEndedWell : (Status → Type 0) → List HartState → Type 0
HaveEndedWell ends harts = (h : ℕ) (own : HartState) → slice_get harts h ≡ Some own → own.status ≢ Running → ends own.status

-- whatever any schedule of a program that keeps to the rule of turns leads to, its marks are right, whatever a power cut leaves is good, and
-- harts have stopped as they may
abbrev pub AlwaysGood : {T : Type 0} → (T → List Event → Type 0) → (List Event → ℕ → Type 0) → (List Event → List (List ℕ) → List (List ℕ) → Type 0) → (Status → Type 0) → Sections →
    List (List ℕ) → ℕ → Type 0
AlwaysGood stands allows good ends program medium harts = (steps : List Step) (end : Config) → RunsTo (started program medium harts) steps end →
    KeepsTo allows (started program medium harts) steps →
    ((t : _) × stands t (trace_in end.common)) × LeavesGood good medium (trace_in end.common) × HaveEndedWell ends end.harts
