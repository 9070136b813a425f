-- A file has one program, or one first fault.
use Rattle.std.proofs.Common.{◌≡◌, ◌+◌, ◌-◌, ◌<◌, ◌≤◌, ◌==◌, not, true, ℕ, zero, suc, List, length, refl, sym, ap, subst, ◌∙◌, add-suc, add-zero, arith, inl, inr}
use Rattle.std.proofs.lemmas.Bool.{and_parts, cases_order, eqb-true}
use Rattle.program.specs.Sections.{Sections}
use Rattle.elf_file.specs.Executable.{IsExecutableOf}
use Rattle.elf_file.specs.Header.{HasHeader, IsElf64, IsExecutable, IsLinked, IsPlain, IsRiscV}
use Rattle.elf_file.specs.Segments.{HasSizes, IsPlaced, IsRightHeader, IsStatic, end_before, header_at, is_segment}
use Rattle.elf_file.specs.Faults.{HasTableFault, IsFirstFault, IsHeaderFault, IsSegmentInFile, IsSizedSegment, IsTableFault}
use Rattle.elf_file.specs.declared.fault.ElfFault.{ElfFault}
use Rattle.elf_file.specs.declared.fault.ElfFault.TheVariants.{Truncated, Identification, Machine, Linkage, Flags, Entry, Placement, Segment, Memory}
use Rattle.elf_file.specs.declared.program_header.ProgramHeader.{ProgramHeader}

no_header_fault : (file : List ℕ) (fault : ElfFault) → HasHeader file → IsHeaderFault file fault → ⊥
no_header_fault file Truncated right found =
    let whole : 64 ≤ length file = right.executable.plain.linked.risc_v.elf.whole in
    elim found [ inl short ↦ omega arith | inr late ↦ late.1 right.table ]
no_header_fault file Identification right found = found.1 right.executable.plain.linked.risc_v.elf
no_header_fault file Machine right found = found.1 right.executable.plain.linked.risc_v.machine
no_header_fault file Linkage right found = found.1 right.executable.plain.linked.kind
no_header_fault file Flags right found = found.1 right.executable.plain.flags
no_header_fault file Entry right found = found.1 right.executable.entry
no_header_fault file Placement right found = found
no_header_fault file Segment right found = found
no_header_fault file Memory right found = found

pub no_table_fault : (file : List ℕ) (end : ℕ) (header : ProgramHeader) (fault : ElfFault) → IsRightHeader file end header → IsTableFault file end header fault → ⊥
no_table_fault file end header Linkage right found = elim found [ inl d ↦ right.static.no_dynamic d | inr i ↦ right.static.no_interpreter i ]
no_table_fault file end header Segment right found =
    elim found [
      | inl large ↦ let sizes : header.file_size ≤ header.memory_size = right.sizes large.0 in omega (arith, large.1)
      | inr low ↦ let upwards : end ≤ header.address = (right.segment low.0.sized.segment).upwards in omega (arith, low.2)
    ]
no_table_fault file end header Truncated right found =
    let in_file : header.offset + header.file_size ≤ length file = (right.segment found.0.segment).in_file in
    omega (arith, found.1)
no_table_fault file end header Placement right found = found.1 (right.segment found.0.sized.segment).placed
no_table_fault file end header Identification right found = found
no_table_fault file end header Machine right found = found
no_table_fault file end header Flags right found = found
no_table_fault file end header Entry right found = found
no_table_fault file end header Memory right found = found

pub no_fault : (file : List ℕ) (object : Sections) (fault : ElfFault) → IsExecutableOf file object → IsFirstFault file fault → ⊥
no_fault file object fault executable found =
    elim found [
      | inl of_header ↦ no_header_fault file fault executable.header of_header
      | inr of_table ↦ no_table_fault file _ _ fault (executable.headers of_table.number of_table.within) of_table.found
    ]

same_sections : (object other : Sections) → object.text ≡ other.text → object.static_data ≡ other.static_data → object ≡ other
same_sections object other text static_data = ap (λ (t : List ℕ). record { text = t; static_data = object.static_data }) text ∙ ap (λ (d : List ℕ). record { text = other.text; static_data = d }) static_data

pub one_program : (file : List ℕ) (object other : Sections) → IsExecutableOf file object → IsExecutableOf file other → object ≡ other
one_program file object other a b = same_sections object other (a.text ∙ sym b.text) (a.static_data ∙ sym b.static_data)

-- Tests that are made one after the other: the last that is passed, and the fault where the next isn't.
record Stops (passes : ℕ → Type 0) (fault_behind : ℕ → ElfFault) (fault : ElfFault) : Type 0 where
  last : ℕ
  passed : passes last
  stopped : passes (suc last) → ⊥
  fault_is : fault ≡ fault_behind last

passes_earlier : (passes : ℕ → Type 0) → ((n : ℕ) → passes (suc n) → passes n) → (more n : ℕ) → passes (n + more) → passes n
passes_earlier passes down zero n passed = subst passes (add-zero n) passed
passes_earlier passes down (suc more) n passed = passes_earlier passes down more n (down (n + more) (subst passes (add-suc n more) passed))

no_later : (passes : ℕ → Type 0) → ((n : ℕ) → passes (suc n) → passes n) → (n m : ℕ) → n < m → (passes (suc n) → ⊥) → passes m → ⊥
no_later passes down n m less stopped passed =
    let sum : m ≡ suc n + (m - suc n) = omega arith in
    stopped (passes_earlier passes down (m - suc n) (suc n) (subst passes sum passed))

one_stop : (passes : ℕ → Type 0) → ((n : ℕ) → passes (suc n) → passes n) → (fault_behind : ℕ → ElfFault) (fault other : ElfFault)
    → Stops passes fault_behind fault → Stops passes fault_behind other → fault ≡ other
one_stop passes down fault_behind fault other a b =
    elim (cases_order a.last b.last) [
      | inl same ↦ a.fault_is ∙ ap fault_behind same ∙ sym b.fault_is
      | inr apart ↦ elim apart [
        | inl less ↦ absurd (no_later passes down a.last b.last less a.stopped b.passed)
        | inr more ↦ absurd (no_later passes down b.last a.last more b.stopped a.passed)
      ]
    ]

-- the tests of a header
abbrev HeaderPasses : List ℕ → ℕ → Type 0
HeaderPasses file zero = Unit {0}
HeaderPasses file (suc zero) = 64 ≤ length file
HeaderPasses file (suc (suc zero)) = IsElf64 file
HeaderPasses file (suc (suc (suc zero))) = IsRiscV file
HeaderPasses file (suc (suc (suc (suc zero)))) = IsLinked file
HeaderPasses file (suc (suc (suc (suc (suc zero))))) = IsPlain file
HeaderPasses file (suc (suc (suc (suc (suc (suc zero)))))) = IsExecutable file
HeaderPasses file (suc (suc (suc (suc (suc (suc (suc n))))))) = HasHeader file

header_fault_behind : ℕ → ElfFault
header_fault_behind zero = Truncated
header_fault_behind (suc zero) = Identification
header_fault_behind (suc (suc zero)) = Machine
header_fault_behind (suc (suc (suc zero))) = Linkage
header_fault_behind (suc (suc (suc (suc zero)))) = Flags
header_fault_behind (suc (suc (suc (suc (suc zero))))) = Entry
header_fault_behind (suc (suc (suc (suc (suc (suc n)))))) = Truncated

header_passes_earlier : (file : List ℕ) (n : ℕ) → HeaderPasses file (suc n) → HeaderPasses file n
header_passes_earlier file zero p = tt
header_passes_earlier file (suc zero) p = p.whole
header_passes_earlier file (suc (suc zero)) p = p.elf
header_passes_earlier file (suc (suc (suc zero))) p = p.risc_v
header_passes_earlier file (suc (suc (suc (suc zero)))) p = p.linked
header_passes_earlier file (suc (suc (suc (suc (suc zero))))) p = p.plain
header_passes_earlier file (suc (suc (suc (suc (suc (suc zero)))))) p = p.executable
header_passes_earlier file (suc (suc (suc (suc (suc (suc (suc n))))))) p = p

header_stops : (file : List ℕ) (fault : ElfFault) → IsHeaderFault file fault → Stops (HeaderPasses file) header_fault_behind fault
unfolding header_fault_behind
header_stops file Truncated found =
    elim found [
      | inl short ↦ record { last = 0; passed = tt; stopped = λ (p : 64 ≤ length file). omega arith; fault_is = refl }
      | inr late ↦ record { last = 6; passed = late.0; stopped = λ (p : HasHeader file). late.1 p.table; fault_is = refl }
    ]
header_stops file Identification found = record { last = 1; passed = found.0; stopped = found.1; fault_is = refl }
header_stops file Machine found = record { last = 2; passed = found.0; stopped = λ (p : IsRiscV file). found.1 p.machine; fault_is = refl }
header_stops file Linkage found = record { last = 3; passed = found.0; stopped = λ (p : IsLinked file). found.1 p.kind; fault_is = refl }
header_stops file Flags found = record { last = 4; passed = found.0; stopped = λ (p : IsPlain file). found.1 p.flags; fault_is = refl }
header_stops file Entry found = record { last = 5; passed = found.0; stopped = λ (p : IsExecutable file). found.1 p.entry; fault_is = refl }
header_stops file Placement found = absurd found
header_stops file Segment found = absurd found
header_stops file Memory found = absurd found

-- the tests of an entry that may be a segment
abbrev EntryPasses : List ℕ → ℕ → ProgramHeader → ℕ → Type 0
EntryPasses file end header zero = Unit {0}
EntryPasses file end header (suc zero) = IsStatic header
EntryPasses file end header (suc (suc zero)) = IsStatic header × HasSizes header
EntryPasses file end header (suc (suc (suc zero))) = IsSegmentInFile file header
EntryPasses file end header (suc (suc (suc (suc zero)))) = IsSegmentInFile file header × IsPlaced header
EntryPasses file end header (suc (suc (suc (suc (suc n))))) = IsSegmentInFile file header × IsPlaced header × (end ≤ header.address)

entry_fault_behind : ℕ → ElfFault
entry_fault_behind zero = Linkage
entry_fault_behind (suc zero) = Segment
entry_fault_behind (suc (suc zero)) = Truncated
entry_fault_behind (suc (suc (suc zero))) = Placement
entry_fault_behind (suc (suc (suc (suc n)))) = Segment

kind_of : (header : ProgramHeader) → is_segment header ≡ true → header.kind ≡ 1
kind_of header segment = eqb-true header.kind 1 (and_parts (header.kind == 1) (not (header.memory_size == 0)) segment).0

loaded_is_static : (header : ProgramHeader) → header.kind ≡ 1 → IsStatic header
loaded_is_static header loaded = record { no_dynamic = λ (e : header.kind ≡ 2). omega arith; no_interpreter = λ (e : header.kind ≡ 3). omega arith }

sized_passes : (header : ProgramHeader) → IsSizedSegment header → IsStatic header × HasSizes header
sized_passes header sized = (loaded_is_static header (kind_of header sized.segment), λ _. sized.sizes)

entry_passes_earlier : (file : List ℕ) (end : ℕ) (header : ProgramHeader) (n : ℕ) → EntryPasses file end header (suc n) → EntryPasses file end header n
entry_passes_earlier file end header zero p = tt
entry_passes_earlier file end header (suc zero) p = p.0
entry_passes_earlier file end header (suc (suc zero)) p = sized_passes header p.sized
entry_passes_earlier file end header (suc (suc (suc zero))) p = p.0
entry_passes_earlier file end header (suc (suc (suc (suc zero)))) p = (p.0, p.1)
entry_passes_earlier file end header (suc (suc (suc (suc (suc n))))) p = p

entry_stops : (file : List ℕ) (end : ℕ) (header : ProgramHeader) (fault : ElfFault) → IsTableFault file end header fault
    → Stops (EntryPasses file end header) entry_fault_behind fault
unfolding entry_fault_behind
entry_stops file end header Linkage found =
    record { last = 0; passed = tt; stopped = λ (p : IsStatic header). elim found [ inl d ↦ p.no_dynamic d | inr i ↦ p.no_interpreter i ]; fault_is = refl }
entry_stops file end header Segment found =
    elim found [
      | inl large ↦ record {
        last = 1;
        passed = loaded_is_static header large.0;
        stopped = λ (p : IsStatic header × HasSizes header). let sizes : header.file_size ≤ header.memory_size = p.1 large.0 in omega (arith, large.1);
        fault_is = refl;
      }
      | inr low ↦ record {
        last = 4;
        passed = (low.0, low.1);
        stopped = λ (p : IsSegmentInFile file header × IsPlaced header × (end ≤ header.address)). omega (arith, p.2, low.2);
        fault_is = refl;
      }
    ]
entry_stops file end header Truncated found =
    record { last = 2; passed = sized_passes header found.0; stopped = λ (p : IsSegmentInFile file header). omega (arith, p.in_file, found.1); fault_is = refl }
entry_stops file end header Placement found =
    record { last = 3; passed = found.0; stopped = λ (p : IsSegmentInFile file header × IsPlaced header). found.1 p.1; fault_is = refl }
entry_stops file end header Identification found = absurd found
entry_stops file end header Machine found = absurd found
entry_stops file end header Flags found = absurd found
entry_stops file end header Entry found = absurd found
entry_stops file end header Memory found = absurd found

-- two faults of one table are of one entry
one_table_fault : (file : List ℕ) (fault other : ElfFault) → HasTableFault file fault → HasTableFault file other → fault ≡ other
one_table_fault file fault other a b =
    elim (cases_order a.number b.number) [
      | inl same ↦
          let at : ℕ → Type 0 = λ n. IsTableFault file (end_before file n) (header_at file n) fault in
          let end = end_before file b.number in
          let header = header_at file b.number in
          one_stop (EntryPasses file end header) (entry_passes_earlier file end header) entry_fault_behind fault other
          (entry_stops file end header fault (subst at same a.found))
          (entry_stops file end header other b.found)
      | inr apart ↦ elim apart [
        | inl less ↦ absurd (no_table_fault file _ _ fault (b.before a.number less) a.found)
        | inr more ↦ absurd (no_table_fault file _ _ other (a.before b.number more) b.found)
      ]
    ]

pub one_fault : (file : List ℕ) (fault other : ElfFault) → IsFirstFault file fault → IsFirstFault file other → fault ≡ other
one_fault file fault other a b =
    elim a [
      | inl first ↦ elim b [
        | inl second ↦ one_stop (HeaderPasses file) (header_passes_earlier file) header_fault_behind fault other (header_stops file fault first) (header_stops file other second)
        | inr second ↦ absurd (no_header_fault file fault second.header first)
      ]
      | inr first ↦ elim b [
        | inl second ↦ absurd (no_header_fault file other first.header second)
        | inr second ↦ one_table_fault file fault other first second
      ]
    ]
