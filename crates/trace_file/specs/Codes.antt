-- The codes by which faults are known.
use Rattle.std.specs.Prelude.{ℕ, List, codes}
use Rattle.trace_file.specs.declared.fault.TraceFileCode.{TraceFileCode}
use Rattle.trace_file.specs.declared.fault.TraceFileCode.TheVariants as code

abbrev pub trace_file_code : TraceFileCode → List ℕ
trace_file_code code.Form = codes "V1"
trace_file_code code.Number = codes "V2"
trace_file_code code.Store = codes "V3"
trace_file_code code.Limit = codes "V4"
trace_file_code code.End = codes "V5"
trace_file_code code.Memory = codes "memory"
