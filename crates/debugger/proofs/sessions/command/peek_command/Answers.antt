use Rattle.std.proofs.Common.{refl}
use Rattle.debugger.specs.Grammar.{peeks}
use Rattle.text.specs.declared.numbers.Number.TheVariants.{Large}
use Rattle.debugger.proofs.sessions.command.peek_command.Goals as goal

pub returns-in-Some-Large-default-clause-err : goal.returns-in-Some-Large-default-clause-err
returns-in-Some-Large-default-clause-err c =
    let range = rw c.in-Some-Large-default.field-0-0-is at c.in-Some-Large-default.ensures in
    (peeks Large c.in-Some-Large-default.field-0-1, (refl, range), refl)
