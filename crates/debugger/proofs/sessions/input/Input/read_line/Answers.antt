use Rattle.std.proofs.Common.{◌≡◌}
use Rattle.debugger.proofs.Taking.{line_done, line_last, part_broken, part_left}
use Rattle.debugger.proofs.sessions.input.Input.read_line.Goals as goal

pub returns-in-Ok-Some-eq10-clause-line : goal.returns-in-Ok-Some-eq10-clause-line
returns-in-Ok-Some-eq10-clause-line g c =
    let arm = c.in-Ok-Some-eq10 in
    let is : arm.field-0-0 ≡ 10 = cc in
    let taken = rw arm.field-0-is at arm.ensures.byte in
    line_done _ _ _ _ _ _ _ _ c.bytes.invariant.part (rw is at taken)

pub returns-in-Err-push_within_limit-clause-part : goal.returns-in-Err-push_within_limit-clause-part
returns-in-Err-push_within_limit-clause-part g c =
    let arm = c.in-Ok-Some in
    part_broken _ _ _ _ _ _ _ _ _ c.bytes.invariant.part (rw arm.field-0-is at arm.ensures.byte)

pub returns-in-Ok-None-clause-line : goal.returns-in-Ok-None-clause-line
returns-in-Ok-None-clause-line g c =
    let arm = c.in-Ok-None in
    let none = rw arm.field-0-is at arm.ensures.byte in
    line_last _ _ _ _ _ _ _ _ c.bytes.invariant.part none.0 none.1

pub returns-in-Err-clause-part : goal.returns-in-Err-clause-part
returns-in-Err-clause-part g c = part_left _ _ _ _ _ _ _ _ c.bytes.invariant.part c.in-Err.ensures.none
