-- The entries of a log. Source: NOVA, FAST 2016: a log entry for each write and for each change of a directory.
use Rattle.std.specs.Prelude.{ℕ, ◌+◌, ◌/◌, Bool, ◌&&◌, leb, ltb, eqb, slice_index, List, [], ◌∷◌, ◌++◌, take, drop, Option, Some, None, cond}
use Rattle.line_memory.specs.Lines.{line_at}
use Rattle.word_bits.specs.Bytes.{loaded}
use Rattle.nova_log.specs.Questions.{Question, question}
use Rattle.nova_log.specs.declared.fault.VolumeFault.{VolumeFault}
use Rattle.nova_log.specs.declared.fault.VolumeFault.TheVariants.{Kind, Name}
use Rattle.nova_log.specs.declared.volume.entry.Entry.{Entry}
use Rattle.nova_log.specs.declared.volume.entry.EntryKind.{EntryKind}
use Rattle.nova_log.specs.declared.volume.entry.EntryKind.TheVariants.{Write, AddName, RemoveName}

-- the kind of a number from 1 to 3
abbrev pub kind_of : ℕ → EntryKind
kind_of number = cond (eqb number 1) Write (cond (eqb number 2) AddName RemoveName)

-- no name in a write, and one of some bytes in the others
abbrev pub length_fits : ℕ → ℕ → ℕ → Bool
length_fits longest kind bytes = cond (eqb kind 1) (eqb bytes 0) (leb 1 bytes && leb bytes longest)

-- a kind that is none, and then a length that isn't one of the kind, or reserved bytes that aren't zero
unfoldable pub entry_fault : ℕ → List ℕ → Option VolumeFault
entry_fault longest line =
    cond (leb 1 (slice_index line 0) && leb (slice_index line 0) 3)
    (cond (length_fits longest (slice_index line 0) (slice_index line 1) && eqb (loaded line 2 6) 0) None (Some Name))
    (Some Kind)

-- an entry's first line has room for 40 bytes of its name
abbrev pub is_long : List ℕ → Bool
is_long line = ltb 40 (slice_index line 1)

-- an entry's first line, and where the name is longer its second
abbrev pub entry_questions : ℕ → List (List ℕ) → ℕ → List Question
entry_questions longest lines position =
    (question (position / 64) (entry_fault longest (line_at lines (position / 64))) ∷ [])
    ++ cond (is_long (line_at lines (position / 64))) (question (position / 64 + 1) None ∷ []) []

-- the entry whose first line this is, with what else there is of it
unfoldable pub entry_in : List ℕ → List ℕ → Entry
entry_in first more = record {
  operation = loaded first 8 8;
  kind = kind_of (slice_index first 0);
  name = take (slice_index first 1) (drop 24 (first ++ more));
  value = loaded first 16 8;
}

abbrev pub entry_at : List (List ℕ) → ℕ → Entry
entry_at lines position =
    entry_in (line_at lines (position / 64)) (cond (is_long (line_at lines (position / 64))) (line_at lines (position / 64 + 1)) [])
