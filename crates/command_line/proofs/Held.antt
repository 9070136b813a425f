-- What a session leaves, by its outcome.
use Rattle.std.proofs.Common.{◌≡◌, ◌∙◌, ℕ, List, [], Option, Result, Ok, Err, ap, inr, subst}
use Rattle.std.specs.Prelude.{IfErr, MatchResult, OnOk}
use Rattle.std.specs.Result.{result_map_both}
use Rattle.debugger.specs.Code.{KnownCode}
use Rattle.debugger.specs.Points.{DebuggerView}
use Rattle.debugger.specs.declared.fault.DebugFault.{DebugFault}
use Rattle.debugger.specs.declared.fault.DebugFault.TheVariants as faults
use Rattle.debugger.specs.declared.points.Point.{Point}
use Rattle.machine.specs.Represents.{MachineView}
use Rattle.debugger.specs.StreamFailures.{EndsBy}
use Rattle.debugger.specs.Sessions.{Fails, Session}
use Rattle.crash_test.specs.Origins.{AreNamesOf, origin_of}
use Rattle.report.specs.Places.{origin_in}
use Rattle.report.specs.declared.place.Places.{Places}
use Rattle.command_line.specs.Debugging.{DebugsFile, FailsBy, HoldsSession, IsBrokenOff, debugger_of, known_code}
use Rattle.command_line.specs.Failures.{failure_of_session}
use Rattle.command_line.specs.declared.failure.Failure.{Failure}
use Rattle.command_line.specs.declared.opened.OpenDebug.{OpenDebug}

-- a new debugger is that of its machine
pub new_debugger : (debugger : DebuggerView) (machine : MachineView) → debugger.machine ≡ machine → debugger.points ≡ []
    → debugger ≡ debugger_of machine
new_debugger debugger machine same none =
    let with_machine : MachineView → DebuggerView = λ m. record { machine = m; points = debugger.points } in
    let with_points : List Point → DebuggerView = λ ps. record { machine = machine; points = ps } in
    ap with_machine same ∙ ap with_points none

-- a session that fails is broken off
pub broken_off : (code : KnownCode) (old new : DebuggerView) (input input' output output' : Option (List ℕ)) (failures failures' : ℕ) (fault : DebugFault)
    → Fails code old new input input' output output' failures failures' fault → IsBrokenOff code old new input input' output output' fault
broken_off code old new input input' output output' failures failures' faults.Memory fails = fails
broken_off code old new input input' output output' failures failures' faults.InputOutput fails = (fails.0, fails.1, fails.2, fails.3)
broken_off code old new input input' output output' failures failures' faults.Command fails = absurd fails
broken_off code old new input input' output output' failures failures' faults.Address fails = absurd fails
broken_off code old new input input' output output' failures failures' faults.PointsFull fails = absurd fails
broken_off code old new input input' output output' failures failures' (faults.Step fault) fails = absurd fails
broken_off code old new input input' output output' failures failures' (faults.Stopped place fault) fails = absurd fails

-- both outcomes of a session, over the debugger of its machine
pub held : (code : KnownCode) (machine : MachineView) (debugger left : DebuggerView) (input input' output output' : Option (List ℕ))
    (outcome : Result (Unit {0}) DebugFault) → debugger ≡ debugger_of machine
    → (failures failures' : ℕ) → OnOk outcome (Session code debugger left input input' output output')
    → IfErr outcome (Fails code debugger left input input' output output' failures failures')
    → MatchResult outcome (λ _. Session code (debugger_of machine) left input input' output output')
    (IsBrokenOff code (debugger_of machine) left input input' output output')
held code machine debugger left input input' output output' (Ok done) new failures failures' session fails = rw new at session
held code machine debugger left input input' output output' (Err fault) new failures failures' session fails =
    rw new at (broken_off code debugger left input input' output output' failures failures' fault fails)

-- why a session ended, by the failure that is told of it
pub fails_by : (source source' sink sink' : ℕ) (outcome : Result (Unit {0}) DebugFault) (ended : Result ℕ Failure)
    → ended ≡ result_map_both (λ _. 0) failure_of_session outcome → IfErr outcome (EndsBy source source' sink sink')
    → IfErr ended (FailsBy source source' sink sink')
fails_by source source' sink sink' (Ok done) ended told ends = rw told tt
fails_by source source' sink sink' (Err faults.Memory) ended told ends = rw told ends
fails_by source source' sink sink' (Err faults.InputOutput) ended told ends = rw told ends
fails_by source source' sink sink' (Err faults.Command) ended told ends = absurd ends
fails_by source source' sink sink' (Err faults.Address) ended told ends = absurd ends
fails_by source source' sink sink' (Err faults.PointsFull) ended told ends = absurd ends
fails_by source source' sink sink' (Err (faults.Step fault)) ended told ends = absurd ends
fails_by source source' sink sink' (Err (faults.Stopped place fault)) ended told ends = absurd ends

-- a session on the machine of a file is that of the opened program
pub held_of_file : (debug : OpenDebug) (file : List ℕ) (machine : MachineView) (places : Places) (input input' output output' : Option (List ℕ))
    (ended : Result ℕ Failure) → file ≡ debug.file.items → machine ≡ debug.machine → origin_in places ≡ origin_of file → AreNamesOf file places
    → HoldsSession (known_code places) machine input input' output output' ended → DebugsFile debug input input' output output' ended
held_of_file debug file machine places input input' output output' ended same_file same_machine origins names held = inr (
  places,
  record {
    origins = origins ∙ ap (λ (bytes : List ℕ). origin_of bytes) same_file;
    names = subst (λ (bytes : List ℕ). AreNamesOf bytes places) same_file names;
  },
  subst (λ (m : MachineView). HoldsSession (known_code places) m input input' output output' ended) same_machine held,
)
