-- What a program's file tells of its pcs.
use Rattle.std.proofs.Common.{◌≡◌, ℕ, List, sym, ap, subst, ◌∙◌}
use Rattle.std.proofs.Math.Path.{fun_ext}
use Rattle.assemble.specs.Assembly.{IsFirstFault, lines_back}
use Rattle.assemble.specs.LineNumbers.{line_number, number_at}
use Rattle.assemble.specs.declared.fault.AsmFault.{AsmFault}
use Rattle.assemble.specs.declared.labels.Labels.{Labels}
use Rattle.assemble.proofs.OneAnswer.{no_fault}
use Rattle.elf_file.specs.FunctionSymbols.{FunctionSymbol}
use Rattle.elf_file.specs.Functions.{functions_of}
use Rattle.elf_file.specs.LineTables.{KnownTable, line_table_of}
use Rattle.program.specs.Sections.{Sections}
use Rattle.crash_test.specs.Origins.{origin_by_kind, origin_of}
use Rattle.report.specs.Places.{by_line, origin_in}
use Rattle.report.specs.declared.place.Places.TheVariants.{Executable, Source, Unknown}
use Rattle.crash_test.specs.Programs.{IsObjectOf, IsProgramOf, file_kind}
use Rattle.crash_test.specs.declared.file_kind.FileKind.{FileKind}
use Rattle.crash_test.specs.declared.file_kind.FileKind.TheVariants as kinds

-- those of an object
pub nothing_known : (file : List ℕ) → file_kind file ≡ kinds.Object → origin_in Unknown ≡ origin_of file
nothing_known file is = fun_ext (λ pc. ap (λ (kind : FileKind). origin_by_kind kind file pc) (sym is))

-- those of an ELF file
pub executable_known : (file : List ℕ) (lines : KnownTable) (functions : List FunctionSymbol) → file_kind file ≡ kinds.Elf
    → lines ≡ line_table_of file → functions ≡ functions_of file → origin_in (Executable lines functions) ≡ origin_of file
executable_known file lines functions is same_lines same = fun_ext (λ pc.
    ap (λ (table : KnownTable). origin_in (Executable table functions) pc) same_lines
    ∙ ap (λ (fs : List FunctionSymbol). origin_in (Executable (line_table_of file) fs) pc) same
    ∙ ap (λ (kind : FileKind). origin_by_kind kind file pc) (sym is))

-- those of a source
pub lines_known : (file numbers : List ℕ) (labels : Labels) → file_kind file ≡ kinds.Source
    → ((pc : ℕ) → number_at numbers pc ≡ line_number (lines_back file) pc) → origin_in (Source numbers labels) ≡ origin_of file
lines_known file numbers labels is same =
    fun_ext (λ pc. ap by_line (same pc) ∙ ap (λ (kind : FileKind). origin_by_kind kind file pc) (sym is))

-- a source that gives a program has no fault
pub no_other_fault : (file : List ℕ) (program : Sections) (fault : AsmFault) → IsProgramOf file program → file_kind file ≡ kinds.Source
    → IsFirstFault file fault → ⊥
no_other_fault file program fault is source first =
    no_fault file is.object fault (subst (λ (kind : FileKind). IsObjectOf kind file is.object) source is.is_object) first
