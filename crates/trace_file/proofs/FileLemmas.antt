-- The file that was read of a text.
use Rattle.std.proofs.Common.{◌≡◌, ℕ, ◌+◌, List, Option, Some, length, sym, ap, ◌∙◌, subst}
use Rattle.std.specs.Prelude.{◌≢◌}
use Rattle.trace_file.proofs.OneReading.{no_fault, one_file}
use Rattle.trace_file.proofs.Ranking.{written_back}
use Rattle.trace_file.specs.Drafts.{IsGathered}
use Rattle.trace_file.specs.Entries.{Entry}
use Rattle.trace_file.specs.Files.{AreAllowed, IsFaultAt, IsFirstFault, IsTraceFile, lines_of}
use Rattle.trace_file.specs.Kept.{HoldsEntries, KeepsAll}
use Rattle.trace_file.specs.Ranks.{FileView, HasEntries, file_text}
use Rattle.trace_file.specs.declared.fault.TraceFileCode.{TraceFileCode}
use Rattle.trace_file.specs.declared.fault.TraceFileCode.TheVariants as code
use Rattle.trace_file.specs.declared.kept.Kept.{Kept}

pub kept_entries : (text lines slice : List ℕ) (count : ℕ) (found : Option Kept) (kept : Kept) → IsGathered text lines count found → found ≡ Some kept → slice ≡ lines
    → (entries : List Entry) × AreAllowed entries × (slice ≡ lines_of entries) × HoldsEntries entries kept
kept_entries text lines slice count found kept g is same =
    (g.entries, g.file.allowed, same ∙ g.different, subst (KeepsAll g.entries) is g.keeps)

pub file_read : (text lines slice : List ℕ) (count : ℕ) (found : Option Kept) (kept : Kept) (file : FileView) → IsGathered text lines count found → found ≡ Some kept
    → slice ≡ lines → ((entries : List Entry) → AreAllowed entries → slice ≡ lines_of entries → HoldsEntries entries kept → HasEntries file entries)
    → (entries : List Entry) × IsTraceFile text entries × HasEntries file entries
file_read text lines slice count found kept file g is same finishes =
    (g.entries, g.file, finishes g.entries g.file.allowed (same ∙ g.different) (subst (KeepsAll g.entries) is g.keeps))

pub only_entries : (text : List ℕ) (file : FileView) → ((entries : List Entry) × IsTraceFile text entries × HasEntries file entries)
    → (other : List Entry) → IsTraceFile text other → HasEntries file other
only_entries text file read other is = subst (HasEntries file) (one_file text read.0 other read.1 is) read.2

pub reads_back : (text : List ℕ) (file : FileView) → ((entries : List Entry) × IsTraceFile text entries × HasEntries file entries) → text ≡ file_text file
reads_back text file read = read.1.whole ∙ sym (written_back file read.0 read.2)

-- a fault of the text is not out of memory, and the text is no trace file
pub not_memory : (text : List ℕ) (line : ℕ) (broken : TraceFileCode) → IsFirstFault text line broken → broken ≢ code.Memory
not_memory text line broken fault is =
    subst (λ (b : TraceFileCode). IsFaultAt b fault.before fault.rest line) is fault.fault

pub not_a_file : (text : List ℕ) (line : ℕ) (broken : TraceFileCode) → IsFirstFault text line broken → (entries : List Entry) → ¬ IsTraceFile text entries
not_a_file text line broken fault entries file = no_fault text entries line broken file fault

pub out_of_memory : (text lines : List ℕ) (count : ℕ) (found : Option Kept) → IsGathered text lines count found
    → (entries : List Entry) × IsTraceFile text entries × (count + 1 ≡ length entries + 1)
out_of_memory text lines count found g = (g.entries, g.file, ap (λ (n : ℕ). n + 1) g.number)
