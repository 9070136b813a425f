-- A routine under way: what it represents in terms of Run, and what its steps do to that.
use Rattle.std.specs.Prelude.{◌≡◌, ◌<◌, ◌≤◌, ℕ, List, [], ◌∷◌, Bool, true, false, Result, Err, length, slice_index, flat_map}
use Rattle.isa_table.specs.declared.instruction.Instr.{Instr}
use Rattle.hart.specs.Effect.{answered}
use Rattle.hart.specs.declared.need.Reply.{Reply}
use Rattle.hart.specs.declared.need.Request.{Request}
use Rattle.machine.specs.declared.schedule.items.Step.TheVariants.{Hart}
use Rattle.machine.specs.Replies.{memory_in, trace_in}
use Rattle.machine.specs.Histories.{calls_of, fetched_text}
use Rattle.machine.specs.Run.{Config, StepsTo}
use Rattle.machine.specs.Represents.{text_bytes}
use Rattle.recovery.specs.Memory.{IsSame, memory_of}
use Rattle.recovery.specs.declared.recovery_run.Cause.{Cause}
use Rattle.recovery.specs.declared.recovery_run.Cause.TheVariants.{Events}
use Rattle.recovery.specs.Answers.{answer_by}
use Rattle.recovery.specs.Asking.{asked, own_bytes}
use Rattle.recovery.specs.Recovery.{RunsFor}
use Rattle.recovery.specs.Fetched.{Refetches}
use Rattle.recovery.specs.World.{Holds, IsTooMany, Serves}
use Rattle.recovery.specs.declared.engine.Engine.{Engine}

-- over the lines of an image, it represents a configuration of hart 0 alone
pub record Represents (engine : Engine) (image : List (List ℕ)) (c : Config) : Type 0 where
  pub harts : c.harts ≡ engine.hart ∷ []
  pub memory : memory_of engine.world.held image ≡ memory_in c.common
  pub text : text_bytes engine.text.bytes ≡ fetched_text c.common.initial 0 c.common.history
  pub reserved : Holds engine.world.reserved (flat_map calls_of c.common.history)
  pub events : engine.world.events ≡ length (trace_in c.common)
  pub few : length (trace_in c.common) ≤ 65536
  pub trace : engine.world.keeps ≡ true → engine.world.trace ≡ trace_in c.common
  pub own : (l : ℕ) → slice_index engine.world.own l ≡ own_bytes c.common.history l
  pub asked : engine.world.asked ≡ asked c.common.history

-- what stays the same in all that a routine does
pub record IsKept (old new : Engine) : Type 0 where
  pub held : IsSame old.world.held new.world.held
  pub start : new.text.start ≡ old.text.start

-- a request of its hart, whose instruction is i, was served, or wasn't as its event would be one too many
pub record Answers (old new : Engine) (image : List (List ℕ)) (i : Instr) (request : Request) : Type 0 where
  pub reply : Reply
  pub serves : Serves old.world new.world image request reply
  pub hart : new.hart ≡ answered old.hart i reply
  pub text : Refetches old.text new.text new.world.held request

abbrev pub IsAsked : Engine → Engine → List (List ℕ) → Instr → Request → Bool → Type 0
IsAsked old new image i request true = Answers old new image i request
IsAsked old new image i request false = (new ≡ old) × IsTooMany old.world image request

-- A step was made: whatever it represented before, it represents what the step makes of that, and events are kept as before. Or it wasn't: it
-- would make an event too many.
abbrev pub Goes : Engine → Engine → List (List ℕ) → Bool → Type 0
Goes old new image true = (new.world.keeps ≡ old.world.keeps)
    × ((c : Config) → Represents old image c → (d : Config) × StepsTo c (Hart 0) d × Represents new image d)
Goes old new image false = (new ≡ old) × ((c : Config) → Represents old image c → (d : Config) × StepsTo c (Hart 0) d × (65536 < length (trace_in d.common)))

-- it ran for so many steps, and is full or not
pub record Runs (old new : Engine) (image : List (List ℕ)) (steps : ℕ) (full : Bool) : Type 0 where
  pub runs : (c : Config) → Represents old image c → (d : Config) × RunsFor c steps d full × Represents new image d
  pub keeps : new.world.keeps ≡ old.world.keeps

-- what a run came to that ended here
abbrev pub ending : Engine → List (List ℕ) → Bool → Result (List ℕ) Cause
ending engine image true = Err Events
ending engine image false = answer_by (memory_of engine.world.held image) engine.hart engine.hart.status

-- it ran for so many steps, and this is what that came to
pub record Comes (old new : Engine) (image : List (List ℕ)) (steps : ℕ) (found : Result (List ℕ) Cause) : Type 0 where
  pub full : Bool
  pub runs : Runs old new image steps full
  pub comes : found ≡ ending new image full
