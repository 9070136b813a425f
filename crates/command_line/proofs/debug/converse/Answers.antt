use Rattle.command_line.specs.Debugging.{known_code}
use Rattle.command_line.proofs.Held.{fails_by, held, new_debugger}
use Rattle.command_line.proofs.debug.converse.Goals as goal

pub returns-clause-holds : goal.returns-clause-holds
returns-clause-holds g c =
    let new = new_debugger _ _ c.new-debugger.ensures.machine c.new-debugger.ensures.points in
    record {
      left = c.session_of-held.new.debugger;
      outcome = c.session_of-held.result;
      runs = rw c.new-debugger.ensures.machine at c.session_of-held.ensures.runs;
      held = held (known_code c.args.code.now.places) _ _ _ _ _ _ _ c.session_of-held.result new c.args.sink.now.failures c.session_of-held.new.sink.failures
          c.session_of-held.ensures.session c.session_of-held.ensures.fails;
      told = c.status_of.ensures;
    }

pub returns-clause-counts : goal.returns-clause-counts
returns-clause-counts g c = fails_by _ _ _ _ c.session_of-held.result c.status_of.result c.status_of.ensures c.session_of-held.ensures.err
