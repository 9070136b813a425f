-- Journals, and the tails that their pending records restore. Source: NOVA, FAST 2016: the records of a journal between its
-- head and its tail are of an operation that isn't committed, and recovery rolls it back.
use Rattle.std.specs.Prelude.{ℕ, ◌≡◌, zero, suc, ◌+◌, ◌-◌, ◌*◌, ◌%◌, ◌<◌, ◌&&◌, leb, ltb, eqb, slice_index_or, List, [], ◌∷◌, ◌++◌, Option, Some, None, map, cond}
use Rattle.std.specs.Option.{option_map, option_or, unwrap_or}
use Rattle.std.specs.List.{find, flat_map, range_with_len}
use Rattle.line_memory.specs.Lines.{line_at}
use Rattle.word_bits.specs.Bytes.{loaded}
use Rattle.nova_log.specs.Questions.{Question, question}
use Rattle.nova_log.specs.declared.fault.VolumeFault.{VolumeFault}
use Rattle.nova_log.specs.declared.fault.VolumeFault.TheVariants.{JournalNumbers, RecordInode}
use Rattle.nova_log.specs.declared.journal.Record.{Record}

abbrev pub journal_line : ℕ → ℕ
journal_line j = 128 + 8 * j

-- four lines after a journal's own hold its records in turn
abbrev pub record_line : ℕ → ℕ → ℕ
record_line j r = journal_line j + 1 + r % 4

-- a journal's line is at fault unless at most four records, from its head to below its tail, are pending
unfoldable pub journal_fault : List ℕ → Option VolumeFault
journal_fault line =
    cond (leb (loaded line 0 8) (loaded line 8 8) && leb (loaded line 8 8) (loaded line 0 8 + 4)) None (Some JournalNumbers)

-- the numbers of the pending records, oldest first, by a journal's line
abbrev pub pending_in : List ℕ → List ℕ
pending_in line = range_with_len (loaded line 0 8) (loaded line 8 8 - loaded line 0 8)

-- a record: the inode that it names, and the tail that this had before the operation
abbrev pub record_in : List ℕ → Record
record_in line = record { inode = loaded line 0 8; old_tail = loaded line 8 8 }

abbrev pub record_at : List (List ℕ) → ℕ → ℕ → Record
record_at lines j r = record_in (line_at lines (record_line j r))

unfoldable pub record_fault : ℕ → List ℕ → Option VolumeFault
record_fault inodes line = cond (ltb (loaded line 0 8) inodes) None (Some RecordInode)

abbrev pub record_questions : ℕ → List (List ℕ) → ℕ → ℕ → List Question
record_questions inodes lines j r = question (record_line j r) (record_fault inodes (line_at lines (record_line j r))) ∷ []

-- a journal's line, and then those of its pending records
abbrev pub journal_questions : ℕ → List (List ℕ) → ℕ → List Question
journal_questions inodes lines j =
    (question (journal_line j) (journal_fault (line_at lines (journal_line j))) ∷ [])
    ++ flat_map (record_questions inodes lines j) (pending_in (line_at lines (journal_line j)))

-- a journal's pending records, oldest first
abbrev pub pending : List (List ℕ) → ℕ → List Record
pending lines j = map (record_at lines j) (pending_in (line_at lines (journal_line j)))

-- the old tail of the first of these records that names inode n
abbrev pub oldest_tail : ℕ → List Record → Option ℕ
oldest_tail n records = option_map (λ r. r.old_tail) (find (λ r. eqb r.inode n) records)

-- the one of the highest journal that has one, of so many journals
unfoldable pub restored_tail : List (List ℕ) → ℕ → ℕ → Option ℕ
restored_tail lines n zero = None
restored_tail lines n (suc j) = option_or (oldest_tail n (pending lines j)) (restored_tail lines n j)

-- the effective tail of inode n: that old tail, or else the inode's own tail
abbrev pub effective_tail : List (List ℕ) → ℕ → ℕ → ℕ
effective_tail lines journals n = unwrap_or (restored_tail lines n journals) (loaded (line_at lines (n + 1)) 8 8)

-- for each inode that there may be, the tail that these journals restore
pub record HasRestored (lines : List (List ℕ)) (restored : List (Option ℕ)) (journals : ℕ) : Type 0 where
  pub each_inode : (n : ℕ) → n < 64 → slice_index_or restored n None ≡ restored_tail lines n journals
