-- A volume moved to layout 2: the new medium, or the first cause for which there is none.
use Rattle.std.specs.Prelude.{ℕ, ◌<◌, leb, List, Result, Ok, Err, cond, length, slice_index}
use Rattle.line_memory.specs.Lines.{IsMedium, line_at}
use Rattle.nova_log.specs.Superblocks.{counts_fit, geometry_of}
use Rattle.nova_log.specs.Volumes.{volume_of}
use Rattle.nova_log.specs.declared.fault.VolumeFault.{VolumeFault}
use Rattle.nova_log.specs.declared.fault.VolumeFault.TheVariants.{Counts, Pages}
use Rattle.nova_log.specs.declared.volume.entry.Entry.{Entry}
use Rattle.nova_log.specs.Parts.{parts_of}
use Rattle.nova_log.specs.Written.{written}

-- counts that no volume has, or else too few pages for the parts of the logs, or else the medium that holds the logs
abbrev pub moved : List (List Entry) → ℕ → ℕ → ℕ → Result (List (List ℕ)) VolumeFault
moved logs journals pages count =
    cond (counts_fit (length logs) pages journals count)
    (cond (leb (length (parts_of logs)) pages) (Ok (written logs pages journals count)) (Err Pages))
    (Err Counts)

abbrev pub moved_if : Result (List (List Entry)) VolumeFault → ℕ → ℕ → ℕ → Result (List (List ℕ)) VolumeFault
moved_if (Err fault) journals pages count = Err fault
moved_if (Ok logs) journals pages count = moved logs journals pages count

-- the medium with these lines upgraded to so many pages and lines, with as many journals, or the fault of its recovery
unfoldable pub upgraded : List (List ℕ) → ℕ → ℕ → Result (List (List ℕ)) VolumeFault
upgraded lines pages count = moved_if (volume_of lines) (geometry_of lines).journals pages count

-- whole lines of bytes, as every medium has them
pub record IsOfBytes (lines : List (List ℕ)) : Type 0 where
  pub whole : IsMedium lines
  pub each : (line place : ℕ) → slice_index (line_at lines line) place < 256
