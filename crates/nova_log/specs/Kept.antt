-- Logs that are kept from one run of recovery to the next, over several media.
use Rattle.std.specs.Prelude.{◌≡◌, ℕ, ◌<◌, List, [], true, length, slice_index_or}
use Rattle.std.specs.List.{AllByRecursion}
use Rattle.line_memory.specs.Lines.{line_at}
use Rattle.nova_log.specs.Questions.{IsThrough}
use Rattle.nova_log.specs.Volumes.{log_in, log_questions}
use Rattle.nova_log.specs.declared.kept.KeptVolume.{KeptVolume}
use Rattle.nova_log.specs.declared.kept.LogReading.{LogReading}
use Rattle.nova_log.specs.declared.superblock.Geometry.{Geometry}
use Rattle.nova_log.specs.declared.volume.entry.Entry.{Entry}
use Rattle.nova_log.specs.Logs.{log_of}

-- media of one size that have the same bytes in these lines
pub record AreAlikeAt (fixed : ℕ → Type 0) (medium other : List (List ℕ)) : Type 0 where
  pub size : length other ≡ length medium
  pub lines : (l : ℕ) → fixed l → line_at other l ≡ line_at medium l

-- recovery of the medium reads the log of this reading without a fault, by these lines, and finds these entries
pub record IsRead (geometry : Geometry) (medium : List (List ℕ)) (reading : LogReading) (log : List Entry) : Type 0 where
  pub through : IsThrough (log_questions geometry medium reading.inode) [] reading.lines.items
  pub entries : log ≡ log_in geometry medium reading.inode
  pub below : AllByRecursion (λ l. l < length medium) reading.lines.items

-- the same of a reading whose log is kept
abbrev pub IfKept : Geometry → List (List ℕ) → LogReading → List Entry → Type 0
IfKept geometry medium reading log = reading.is_kept ≡ true → IsRead geometry medium reading log

-- recovery of the medium finds the logs that are kept
abbrev pub AreKept : List (List ℕ) → KeptVolume → Type 0
AreKept medium kept = (n : ℕ) (d : LogReading) → n < length kept.readings.items →
    IfKept kept.geometry medium (slice_index_or kept.readings.items n d) (log_of kept.volume n)
