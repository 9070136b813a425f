use Rattle.debugger.proofs.Outcomes.{no_command}
use Rattle.debugger.proofs.sessions.dialogue.carried.Goals as goal

pub returns-in-Err-clause-comes_out : goal.returns-in-Err-clause-comes_out
returns-in-Err-clause-comes_out g c = λ whole held.
    no_command (g.C.Code.known c.args.code.now) _ _ whole _ c.in-Err.ensures.filled c.in-Err.ensures.err (rw c.in-Whole.is at held)
