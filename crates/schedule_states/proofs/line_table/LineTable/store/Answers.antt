use Rattle.std.proofs.lemmas.Result.{IfOk-weaker}
use Rattle.schedule_states.proofs.Writing.{aligned_access, line_there, write_made}
use Rattle.schedule_states.proofs.line_table.LineTable.store.Goals as goal

pub state_of-requires-clause-there : goal.state_of-requires-clause-there
state_of-requires-clause-there c = line_there _ c.args.address c.args.width c.requires.width c.requires.there

pub line_written-requires-clause-aligned : goal.line_written-requires-clause-aligned
line_written-requires-clause-aligned c = aligned_access _ c.args.address c.args.width c.requires.there

pub returns-clause-stored : goal.returns-clause-stored
returns-clause-stored c = IfOk-weaker c.put.result _ _
    (λ lines put memory p of. write_made c.args.self.now c.put.new.self c.args.held.now lines.items c.args.address c.args.width c.args.value
    c.in_ok-before.before c.in_ok-after.after memory p c.put.ensures.start c.requires.width
    (aligned_access _ c.args.address c.args.width c.requires.there) c.in_ok-before.ensures.now c.in_ok-after.ensures.bytes c.in_ok-after.ensures.line put of)
    c.put.ensures.put
