-- What is read of a text, and why none is.
use Rattle.std.proofs.Common.{◌≡◌, ◌∙◌, ℕ, ◌+◌, ◌≤◌, List, length, refl}
use Rattle.std.specs.Prelude.{◌≢◌}
use Rattle.trace_file.specs.Entries.{Entry}
use Rattle.trace_file.specs.Files.{IsFirstFault, IsTraceFile}
use Rattle.trace_file.specs.Ranks.{FileView, HasEntries, copies_of}
use Rattle.trace_file.specs.declared.fault.TraceFileCode.{TraceFileCode}
use Rattle.trace_file.specs.declared.fault.TraceFileCode.TheVariants.{Form, Number, Store, Limit, End, Memory}
use Rattle.trace_file.specs.declared.fault.TraceFileFault.{TraceFileFault}
use Rattle.trace_file.specs.declared.file.RankedTrace.{RankedTrace}
use Rattle.command_line.specs.Failures.{failure_of_trace}
use Rattle.command_line.specs.Steps.{Tells}
use Rattle.command_line.specs.Traces.{IsReadFrom, IsTraceFault, IsTraceFaultAt}
use Rattle.command_line.specs.declared.failure.Failure.TheVariants as failures

pub is_read : (text : List ℕ) (file : FileView) (ranked : RankedTrace) (entries : List Entry) → IsTraceFile text entries → HasEntries file entries
    → ranked.trace.events ≡ file.events → ranked.names.items ≡ file.names → copies_of ranked.places.items ≡ file.places → length file.names ≤ 16384
    → IsReadFrom text ranked
is_read text file ranked entries is has events names places few = record {
  entries = entries;
  file = is;
  has = record {
    names = names ∙ has.names;
    ranks = rw (events, names) has.ranks;
    events = rw (events, names) has.events;
    places = places ∙ has.places;
  };
  few = rw names few;
}

fault_at : (text : List ℕ) (line : ℕ) (code : TraceFileCode) → (code ≢ Memory → IsFirstFault text line code)
    → (code ≡ Memory → (entries : List Entry) × IsTraceFile text entries × (line ≡ length entries + 1)) → IsTraceFaultAt text line code
fault_at text line Form first wanted = first (λ e. absurd cc)
fault_at text line Number first wanted = first (λ e. absurd cc)
fault_at text line Store first wanted = first (λ e. absurd cc)
fault_at text line Limit first wanted = first (λ e. absurd cc)
fault_at text line End first wanted = first (λ e. absurd cc)
fault_at text line Memory first wanted = let found : (entries : List Entry) × IsTraceFile text entries × (line ≡ length entries + 1) = wanted refl in (found.0, found.1)

pub is_fault : (text : List ℕ) (fault : TraceFileFault) → (fault.code ≢ Memory → IsFirstFault text fault.line fault.code)
    → (fault.code ≡ Memory → (entries : List Entry) × IsTraceFile text entries × (fault.line ≡ length entries + 1)) → IsTraceFault text fault
is_fault text fault first wanted = fault_at text fault.line fault.code first wanted

-- memory for the copy of a trace file's places was refused
pub not_copied : (text : List ℕ) (entries : List Entry) → IsTraceFile text entries → Tells (IsTraceFault text) failure_of_trace failures.Memory
not_copied text entries is = record { fault = record { line = 0; code = Memory }; told = refl; found = (entries, is) }
