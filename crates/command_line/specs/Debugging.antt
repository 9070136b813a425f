-- What `debug` comes to: the program that a session is held on, and the session.
use Rattle.std.specs.Prelude.{◌≡◌, ◌⊎◌, ◌++◌, ℕ, List, [], Option, Result, Err, MatchResult, option_map, string_bytes}
use Rattle.std.specs.Io.KnownBytes.{Appends}
use Rattle.std.specs.Result.{result_map_both}
use Rattle.arguments.specs.declared.asked.DebugCommand.{DebugCommand}
use Rattle.debugger.specs.declared.fault.DebugFault.{DebugFault}
use Rattle.debugger.specs.declared.fault.DebugFault.TheVariants.{InputOutput, Memory}
use Rattle.debugger.specs.Code.{KnownCode}
use Rattle.debugger.specs.Points.{DebuggerView}
use Rattle.machine.specs.Represents.{MachineView}
use Rattle.machine.specs.Limits.{RefusesStart}
use Rattle.debugger.specs.StreamFailures.{one_more}
use Rattle.debugger.specs.Running.{SomeRun}
use Rattle.debugger.specs.Sessions.{BreaksOff, Session}
use Rattle.crash_test.specs.Origins.{AreNamesOf, origin_of}
use Rattle.crash_test.specs.Programs.{IsProgramOf}
use Rattle.crash_test.specs.Runs.{IsAtStart}
use Rattle.program.specs.Sections.{Sections}
use Rattle.report.specs.Addresses.{StandsIn, are_of_executable, have_name}
use Rattle.report.specs.Places.{KnownOrigin, origin_in, pc_text}
use Rattle.report.specs.declared.place.Places.{Places}
use Rattle.machine.specs.declared.recording.setup.Setup.{Setup}
use Rattle.command_line.specs.Failures.{failure_of_session, failure_of_step}
use Rattle.command_line.specs.Reading.{ReadsMedium, SaysProgram, machine_of}
use Rattle.command_line.specs.Steps.{First, Reads, ReadsFile, Step, Still, Tells}
use Rattle.command_line.specs.declared.failure.Failure.{Failure}
use Rattle.command_line.specs.declared.failure.Failure.TheVariants as failures
use Rattle.command_line.specs.declared.opened.OpenDebug.{OpenDebug}

-- the machine of a setup that has made no step, or why there is none
pub record Starts (s : Setup) (outcome : Result MachineView Failure) : Type 0 where
  pub starts : MatchResult outcome (IsAtStart s) (Tells (RefusesStart s.harts s.capacity) failure_of_step)

-- the bytes of the program's file, and its machine
pub record IsOpened (file : List ℕ) (machine : MachineView) (outcome : Result OpenDebug Failure) : Type 0 where
  pub opens : MatchResult outcome (λ debug. (debug.file.items ≡ file) × (debug.machine ≡ machine)) (λ failure. ⊥)

abbrev pub OpensFile : {F : Type 0} → Reads F → DebugCommand → Step F OpenDebug
OpensFile reads command =
    First (ReadsFile reads (string_bytes command.program)) (λ file.
    First (Still (SaysProgram file)) (λ program.
    First (ReadsMedium reads (option_map string_bytes command.machine.medium)) (λ medium.
    First (Still (Starts (machine_of command.machine program medium))) (λ machine.
    Still (IsOpened file machine)))))

-- its file gives a program
pub record IsOpen (debug : OpenDebug) : Type 0 where
  pub program : Sections
  pub is_program : IsProgramOf debug.file.items program

-- how a pc is told, by what is known of it
abbrev pub told_place : (ℕ → KnownOrigin) → ℕ → List ℕ
told_place origins pc = pc_text pc (origins pc)

-- what is known of a program's code by its places
abbrev pub known_code : Places → KnownCode
known_code places = record { named = have_name places; is_placed = are_of_executable places; stands_for = StandsIn places; place = told_place (origin_in places) }

-- the debugger of a machine, without points
abbrev pub debugger_of : MachineView → DebuggerView
debugger_of machine = record { machine = machine; points = [] }

-- a session that was broken off by this fault, by what was known of standard input and of standard output before and after
-- it: memory was refused, and the answers alone were written, or a read or a write failed, and behind the answers there may be
-- a part of the one that wasn't written to its end
abbrev pub IsBrokenOff : KnownCode → DebuggerView → DebuggerView → Option (List ℕ) → Option (List ℕ) → Option (List ℕ) → Option (List ℕ)
    → DebugFault → Type 0
IsBrokenOff code old new input input' output output' Memory =
    (answered : List ℕ) × BreaksOff code old new input input' answered [] × Appends output output' answered
IsBrokenOff code old new input input' output output' InputOutput =
    (answered part : List ℕ) × BreaksOff code old new input input' answered part × Appends output output' (answered ++ part)
IsBrokenOff code old new input input' output output' fault = ⊥

-- a session on a machine that has made no step, of whose code this is known; the status of one that ended well is 0
pub record HoldsSession (code : KnownCode) (machine : MachineView) (input input' output output' : Option (List ℕ)) (ended : Result ℕ Failure) : Type 0 where
  pub left : DebuggerView
  pub outcome : Result (Unit {0}) DebugFault
  pub runs : SomeRun machine left.machine
  pub held : MatchResult outcome (λ _. Session code (debugger_of machine) left input input' output output')
      (IsBrokenOff code (debugger_of machine) left input input' output output')
  pub told : ended ≡ result_map_both (λ _. 0) failure_of_session outcome

-- the places of a program's file: they say where its pcs are, and of an ELF file they have its functions and lines, and of a source its labels
pub record ArePlacesOf (file : List ℕ) (places : Places) : Type 0 where
  pub origins : origin_in places ≡ origin_of file
  pub names : AreNamesOf file places

-- a session on the program of a file; or memory for its places is refused, and nothing is read or written
abbrev pub DebugsFile : OpenDebug → Option (List ℕ) → Option (List ℕ) → Option (List ℕ) → Option (List ℕ) → Result ℕ Failure → Type 0
DebugsFile debug input input' output output' ended = ((ended ≡ Err failures.Memory) × (input' ≡ input) × (output' ≡ output))
    ⊎ ((places : Places) × ArePlacesOf debug.file.items places × HoldsSession (known_code places) debug.machine input input' output output' ended)

-- why a session ends with a failure, by how often its source and its sink had failed before it and after it: one of them failed,
-- and then no stream is asked again, or memory was refused, and neither failed
abbrev pub FailsBy : ℕ → ℕ → ℕ → ℕ → Failure → Type 0
FailsBy source source' sink sink' failures.File =
    ((source' ≡ one_more source) × (sink' ≡ sink)) ⊎ ((source' ≡ source) × (sink' ≡ one_more sink))
FailsBy source source' sink sink' failures.Memory = (source' ≡ source) × (sink' ≡ sink)
FailsBy source source' sink sink' (failures.Line text) = ⊥
FailsBy source source' sink sink' (failures.Refused refusal) = ⊥
FailsBy source source' sink sink' (failures.Unfinished text) = ⊥
