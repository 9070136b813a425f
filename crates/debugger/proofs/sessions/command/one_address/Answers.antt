use Rattle.debugger.proofs.Commands.{no_address}
use Rattle.debugger.proofs.sessions.command.one_address.Goals as goal

pub returns-in-None-clause-err : goal.returns-in-None-clause-err
returns-in-None-clause-err c = λ number. no_address _ c.in-Some.word.now number c.in-Some.ensures.some c.in-None.ensures.none
