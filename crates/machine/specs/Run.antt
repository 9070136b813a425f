-- Run: a schedule's steps of harts and evictions, one after another, from a start.
-- Source: RISC-V Unprivileged ISA 20191213, chapter 1 ("Exceptions, Traps, and Interrupts"), chapter 2 and chapter 3
-- ("Zifencei"); harts interleave one instruction at a time.
use Rattle.std.specs.Prelude.{◌≡◌, ℕ, ◌+◌, ◌&&◌, List, [], ◌∷◌, Option, Some, None, map, nat_le, if◌then◌else◌, slice_get, slice_set}
use Rattle.std.specs.List.{range_with_len}
use Rattle.isa_table.specs.declared.instruction.Instr.{Instr}
use Rattle.line_memory.specs.Memory.{Memory, loaded_from}
use Rattle.line_memory.specs.declared.TheConstants.{TEXT_BASE, TEXT_SIZE}
use Rattle.program.specs.Sections.{Sections}
use Rattle.hart.specs.declared.state.HartState.{HartState}
use Rattle.hart.specs.declared.state.Status.{Status}
use Rattle.hart.specs.declared.state.Status.TheVariants.{Running, Exited, Trapped}
use Rattle.hart.specs.declared.need.Need.{Need}
use Rattle.hart.specs.declared.need.Need.TheVariants.{Local, Ask, Stop}
use Rattle.hart.specs.declared.need.Request.{Request}
use Rattle.hart.specs.Effect.{answered, start}
use Rattle.hart.specs.Needs.{IsSpelledBy, Needs}
use Rattle.machine.specs.declared.shared_memory.history.Entry.TheVariants.{Evicted}
use Rattle.machine.specs.declared.schedule.items.Step.{Step}
use Rattle.machine.specs.declared.schedule.items.Step.TheVariants.{Hart, Evict}
use Rattle.machine.specs.Histories.{fetched_text}
use Rattle.machine.specs.Replies.{SharedState, reply_after, shared_after, shared_at_start}

-- all that a run changes: the harts, by their number, and what they share
pub record Config : Type 0 where
  pub harts : List HartState
  pub common : SharedState

-- the start of a number of harts over a program's sections and the lines of a medium
abbrev pub started : Sections → List (List ℕ) → ℕ → Config
started program lines harts = record {
  harts = map start (range_with_len 0 harts);
  common = shared_at_start program lines;
}

-- the word of a text at an address, None where it doesn't lie in the text region
abbrev pub fetched : Memory → ℕ → Option ℕ
fetched text pc = if nat_le TEXT_BASE pc && nat_le (pc + 4) (TEXT_BASE + TEXT_SIZE) then loaded_from text pc 4 else None

-- the word that hart h fetches: each hart has a copy of the text, which its own FENCE.I alone renews
abbrev pub fetched_by : Config → ℕ → ℕ → Option ℕ
fetched_by c h pc = fetched (fetched_text c.common.initial h c.common.history) pc

-- hart h as it is after a step of its own
abbrev pub with_hart : Config → ℕ → HartState → Config
with_hart c h s = record c { harts = slice_set c.harts h s }

-- hart h, whose instruction is i, after the reply of memory to its request
abbrev pub after_request : Config → ℕ → HartState → Instr → Request → Config
after_request c h s i request = record {
  harts = slice_set c.harts h (answered s i (reply_after c.common h request));
  common = shared_after c.common h request;
}

-- from c hart h comes to d when what its instruction needs is met
abbrev pub Meets : Config → ℕ → HartState → Option ℕ → Need → Config → Type 0
Meets c h s word (Local after) d = d ≡ with_hart c h after
Meets c h s word (Stop trap) d = d ≡ with_hart c h (record s { status = Trapped trap })
Meets c h s word (Ask request) d = (i : Instr) × IsSpelledBy word i × (d ≡ after_request c h s i request)

-- from c running hart h comes to d by the instruction that the word it fetches spells
abbrev pub Executes : Config → ℕ → HartState → Option ℕ → Config → Type 0
Executes c h s word d = (need : Need) × Needs s word need × Meets c h s word need d

-- a hart that runs executes; one that stopped changes nothing; one that is not there makes no step
abbrev pub HartSteps : Config → ℕ → HartState → Status → Config → Type 0
HartSteps c h s Running d = Executes c h s (fetched_by c h s.pc) d
HartSteps c h s (Exited code) d = d ≡ c
HartSteps c h s (Trapped trap) d = d ≡ c

abbrev pub HartStepsIfThere : Config → ℕ → Option HartState → Config → Type 0
HartStepsIfThere c h None d = ⊥
HartStepsIfThere c h (Some s) d = HartSteps c h s s.status d

-- one step of a schedule from c to d: an eviction changes neither harts nor flat memory, and joins the history
abbrev pub StepsTo : Config → Step → Config → Type 0
StepsTo c (Hart h) d = HartStepsIfThere c h (slice_get c.harts h) d
StepsTo c (Evict line) d = d ≡ record c { common = record c.common { history = Evicted line ∷ c.common.history } }

-- the steps of a list, in order, from c to d
abbrev pub RunsTo : Config → List Step → Config → Type 0
RunsTo c [] d = d ≡ c
RunsTo c (step ∷ steps) d = (middle : Config) × StepsTo c step middle × RunsTo middle steps d
