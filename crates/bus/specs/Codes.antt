-- The codes by which faults are known.
use Rattle.std.specs.Prelude.{ℕ, List, codes}
use Rattle.bus.specs.declared.finish_fault.FinishFault.{FinishFault}
use Rattle.bus.specs.declared.finish_fault.FinishFault.TheVariants as seats

-- of seats that aren't gathered
abbrev pub finish_code : FinishFault → List ℕ
finish_code seats.SeatMissing = codes "B1"
finish_code seats.SeatNumber = codes "B2"
finish_code seats.Foreign = codes "B3"
finish_code seats.Memory = codes "B4"
