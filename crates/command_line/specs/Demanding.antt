-- `--whole`: what comes of a run that was to be whole.
use Rattle.std.specs.Prelude.{◌≡◌, ◌≢◌, ◌⊎◌, ⊤, ℕ, Bool, true, false, List, [], Result, MatchResult, string_bytes}
use Rattle.crash_test.specs.Origins.{origin_of}
use Rattle.hart.specs.declared.state.HartState.{HartState}
use Rattle.machine.specs.Recorded.{RecordedView}
use Rattle.report.specs.Causes.{unfinished_text}
use Rattle.report.specs.Places.{KnownOrigin}
use Rattle.store_trace.specs.declared.event.Event.{Event}
use Rattle.unfinished.specs.Causes.{AreCauses}
use Rattle.unfinished.specs.Whole.{IsWhole}
use Rattle.unfinished.specs.declared.unfinished.Unfinished.{Unfinished as Cause}
use Rattle.command_line.specs.Writing.{IsDone}
use Rattle.command_line.specs.declared.failure.Failure.{Failure}
use Rattle.command_line.specs.declared.failure.Failure.TheVariants.{Unfinished, Line, Refused, Memory, File}
use Rattle.command_line.specs.declared.made_run.MadeRun.{MadeRun}

-- a line for each of these is told, by the place of each pc, or memory for them was refused
abbrev pub IsToldBy : (ℕ → KnownOrigin) → List Cause → Failure → Type 0
IsToldBy origins causes (Unfinished text) = string_bytes text ≡ unfinished_text origins causes
IsToldBy origins causes Memory = ⊤
IsToldBy origins causes (Line text) = ⊥
IsToldBy origins causes (Refused refusal) = ⊥
IsToldBy origins causes File = ⊥

-- what keeps events, and the harts that made them, from being whole, of which there is some, is told
pub record TellsCauses (origins : ℕ → KnownOrigin) (harts : List HartState) (events : List Event) (planned : List ℕ) (failure : Failure) : Type 0 where
  pub causes : List Cause
  pub of_run : AreCauses planned harts events causes
  pub some : causes ≢ []
  pub told : IsToldBy origins causes failure

-- they are whole: at the end each hart has exited with 0, each planned operation has begun, and each that has begun has ended; or it is
-- told why they aren't, if memory for that isn't refused
pub record IsWholeOrTold (origins : ℕ → KnownOrigin) (harts : List HartState) (events : List Event) (planned : List ℕ)
    (outcome : Result (Unit {0}) Failure) : Type 0 where
  pub whole : MatchResult outcome (λ _. IsWhole planned harts events)
      (λ failure. TellsCauses origins harts events planned failure ⊎ (failure ≡ Memory))

-- nothing is asked of a run without `--whole`
abbrev pub MeetsIf : Bool → (ℕ → KnownOrigin) → List HartState → List Event → List ℕ → Result (Unit {0}) Failure → Type 0
MeetsIf false origins harts events planned outcome = IsDone outcome
MeetsIf true origins harts events planned outcome = IsWholeOrTold origins harts events planned outcome

pub record MeetsWhole (whole : Bool) (made : MadeRun) (planned : List ℕ) (outcome : Result (Unit {0}) Failure) : Type 0 where
  pub meets : MeetsIf whole (origin_of made.file.items) made.run.harts made.run.events planned outcome

-- the same of what harts made together, without a plan
pub record MeetsTogether (whole : Bool) (file : List ℕ) (recorded : RecordedView) (outcome : Result (Unit {0}) Failure) : Type 0 where
  pub meets : MeetsIf whole (origin_of file) recorded.harts recorded.trace [] outcome
