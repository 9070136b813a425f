use Rattle.debugger.proofs.Walking.{walks_if_made}
use Rattle.debugger.proofs.stepping.DebuggerStepper.step.Goals as goal

pub returns-in-None-clause-ok : goal.returns-in-None-clause-ok
returns-in-None-clause-ok c = walks_if_made c.args.self.now c.make.new.self c.args.step c.make.result c.in-None.ensures c.make.ensures.ok
