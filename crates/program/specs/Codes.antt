-- The codes by which faults are known.
use Rattle.std.specs.Prelude.{ℕ, List, codes}
use Rattle.program.specs.declared.fault.LoadFault.{LoadFault}
use Rattle.program.specs.declared.fault.LoadFault.TheVariants as loads

-- of an object's file
abbrev pub load_code : LoadFault → List ℕ
load_code loads.Magic = codes "P1"
load_code loads.Truncated = codes "P2"
load_code loads.TooLarge = codes "P3"
load_code loads.Trailing = codes "P4"
load_code loads.TextLength = codes "P5"
load_code loads.Memory = codes "P6"
