use Rattle.std.proofs.Common.{arith}
use Rattle.random_schedule.proofs.Makes.{room_left}
use Rattle.random_schedule.proofs.making.step.Goals as goal

pub returns-in-Err-Memory-clause-err : goal.returns-in-Err-Memory-clause-err
returns-in-Err-Memory-clause-err c =
    let why = rw c.in-Err-Memory.field-0-is at c.in-Err-Memory.ensures.refused in
    room_left _ _ c.requires (omega arith) why.0 why.1
