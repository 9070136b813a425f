-- The codes by which faults are known.
use Rattle.std.specs.Prelude.{ℕ, List, codes}
use Rattle.machine.specs.Codes.{step_code}
use Rattle.debugger.specs.declared.fault.DebugFault.{DebugFault}
use Rattle.debugger.specs.declared.fault.DebugFault.TheVariants as faults

-- of a command of a session
abbrev pub code : DebugFault → List ℕ
code faults.Command = codes "D1"
code faults.Address = codes "D2"
code faults.PointsFull = codes "D3"
code faults.Memory = codes "D4"
code faults.InputOutput = codes "D5"
code (faults.Step fault) = step_code fault
code (faults.Stopped place fault) = step_code fault
