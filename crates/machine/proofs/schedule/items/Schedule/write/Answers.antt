use Rattle.std.proofs.Common.{refl, string_bytes}
use Rattle.machine.proofs.Written.{read_again}
use Rattle.machine.proofs.schedule.items.Schedule.write.Goals as goal

pub returns-clause-read : goal.returns-clause-read
returns-clause-read c = read_again c.args.self.now (string_bytes c.in_ok-written.field-0)
    (rw c.items-items.ensures at c.in_ok-written.ensures) (rw c.items-items.ensures at (c.if-not-is_within_limit.ensures.0 refl))
