use Rattle.std.proofs.lemmas.Result.{IfErr-weaker, IfOk-weaker, on_err_weaker}
use Rattle.bus.proofs.Refusing.{step_refusal}
use Rattle.bus.proofs.Stepping.{served_answer}
use Rattle.bus.proofs.seat.Seat.ask.Goals as goal

pub returns-clause-ok : goal.returns-clause-ok
returns-clause-ok g c =
    IfOk-weaker c.serve.result _ _ (λ outcome served. served_answer c.deref_mut.result.now c.serve.new.core c.args.self.now c.serve.new.seat outcome served)
    c.serve.ensures.ok

pub returns-clause-err : goal.returns-clause-err
returns-clause-err g c = on_err_weaker c.serve.result (λ same. same.1) c.serve.ensures.err

pub returns-clause-cause : goal.returns-clause-cause
returns-clause-cause g c =
    IfErr-weaker c.serve.result _ _ (λ fault refused. step_refusal c.deref_mut.result.now c.args.self.now fault refused) c.serve.ensures.refused
