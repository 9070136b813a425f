-- A machine represents a configuration of the definition Run; and what a machine's calls do, said of all that it represents.
use Rattle.std.specs.Prelude.{◌≡◌, ◌<◌, ℕ, List, [], Option, Some, None, All, length, slice_index_or, slice_set, if◌then◌else◌}
use Rattle.line_memory.specs.Memory.{Memory}
use Rattle.line_memory.specs.Regions.{region}
use Rattle.line_memory.specs.declared.TheConstants.{TEXT_BASE, TEXT_SIZE}
use Rattle.hart.specs.Effect.{answered}
use Rattle.hart.specs.declared.state.HartState.{HartState}
use Rattle.isa_table.specs.declared.instruction.Instr.{Instr}
use Rattle.hart.specs.Needs.{Needs}
use Rattle.hart.specs.declared.need.Need.{Need}
use Rattle.hart.specs.declared.need.Request.{Request}
use Rattle.hart.specs.declared.state.Status.TheVariants.{Running}
use Rattle.hart.specs.declared.need.Reply.{Reply}
use Rattle.machine.specs.declared.schedule.items.Step.{Step}
use Rattle.machine.specs.declared.schedule.items.Step.TheVariants.{Hart, Evict}
use Rattle.machine.specs.Histories.{fetched_text, is_renewing}
use Rattle.machine.specs.Run.{Config, RunsTo, fetched}
use Rattle.machine.specs.SharedView.{IsExact, RepresentsShared, Serves, SharedView}

-- what a contract sees of a machine: the harts, the text that each of them fetches, and what they share
pub record MachineView : Type 0 where
  pub harts : List HartState
  pub copies : List (List ℕ)
  pub shared : SharedView

-- the text of the bytes of a whole text region, and that of hart h
abbrev pub text_bytes : List ℕ → Memory
text_bytes bytes = region TEXT_BASE TEXT_SIZE bytes

abbrev pub copy_of : MachineView → ℕ → Memory
copy_of machine h = text_bytes (slice_index_or machine.copies h [])

-- the copies after a request of hart h: a FENCE.I makes the hart's copy equal to the text as it stands
abbrev pub copies_after : List (List ℕ) → ℕ → Request → List ℕ → List (List ℕ)
copies_after copies h request text = if is_renewing request then slice_set copies h text else copies

pub record Represents (machine : MachineView) (c : Config) : Type 0 where
  pub harts : machine.harts ≡ c.harts
  pub shared : RepresentsShared machine.shared c.common
  pub copies : (h : ℕ) → h < length machine.harts → copy_of machine h ≡ fetched_text c.common.initial h c.common.history

-- it represents the configuration with the one cache that the requests and evictions of its history leave
pub record RepresentsExactly (machine : MachineView) (c : Config) : Type 0 where
  pub represents : Represents machine c
  pub exact : IsExact machine.shared c.common

-- hart h, whose state is s, after the reply to the request of its instruction i
pub record Answers (old new : SharedView) (h : ℕ) (s : HartState) (i : Instr) (request : Request) (after : HartState) : Type 0 where
  pub reply : Reply
  pub serves : Serves old new h request reply
  pub answered : after ≡ answered s i reply

-- there is such a hart, and it runs
abbrev pub IsRunning : Option HartState → Type 0
IsRunning None = ⊥
IsRunning (Some s) = s.status ≡ Running

-- what the next instruction of hart h needs, by the word of its copy of the text at its pc
abbrev pub NeedsAt : MachineView → ℕ → Option HartState → Need → Type 0
NeedsAt machine h None need = ⊥
NeedsAt machine h (Some s) need = Needs s (fetched (copy_of machine h) s.pc) need

-- the hart, or the line, of a step is there
abbrev pub IsThere : MachineView → Step → Type 0
IsThere machine (Hart h) = h < length machine.harts
IsThere machine (Evict line) = line < length machine.shared.cache.lines

-- each of these steps is there, and whatever the old machine represents, the new one represents what they make of it
pub record Runs (old new : MachineView) (steps : List Step) : Type 0 where
  pub there : All (IsThere old) steps
  pub harts : length new.harts ≡ length old.harts
  pub lines : length new.shared.cache.lines ≡ length old.shared.cache.lines
  pub capacity : new.shared.cache.cache.capacity ≡ old.shared.cache.cache.capacity
  pub represents : (c : Config) → Represents old c → (d : Config) × RunsTo c steps d × Represents new d

-- whatever the old machine represents exactly, the new one represents exactly what these steps make of it
pub record RunsExactly (old new : MachineView) (steps : List Step) : Type 0 where
  pub represents : (c : Config) → RepresentsExactly old c → (d : Config) × RunsTo c steps d × RepresentsExactly new d

-- both
pub record RunsBoth (old new : MachineView) (steps : List Step) : Type 0 where
  pub runs : Runs old new steps
  pub exact : RunsExactly old new steps
