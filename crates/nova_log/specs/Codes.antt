-- The codes by which faults are known.
use Rattle.std.specs.Prelude.{ℕ, List, codes}
use Rattle.nova_log.specs.declared.fault.VolumeFault.{VolumeFault}
use Rattle.nova_log.specs.declared.fault.VolumeFault.TheVariants as volumes

-- of a volume
abbrev pub volume_code : VolumeFault → List ℕ
volume_code volumes.Magic = codes "N1"
volume_code volumes.Counts = codes "N2"
volume_code volumes.JournalNumbers = codes "N3"
volume_code volumes.RecordInode = codes "N4"
volume_code volumes.Head = codes "N5"
volume_code volumes.TailNotReached = codes "N6"
volume_code volumes.Link = codes "N7"
volume_code volumes.Kind = codes "N8"
volume_code volumes.Name = codes "N9"
volume_code volumes.Memory = codes "N10"
volume_code volumes.Pages = codes "N11"
