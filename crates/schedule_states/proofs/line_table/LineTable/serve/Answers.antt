use Rattle.std.proofs.Common.{◌≡◌, Some, rules}
use Rattle.hart.specs.declared.need.Reply.TheVariants.{Done}
use Rattle.machine.specs.Histories.{written}
use Rattle.schedule_states.proofs.Serving.{cleaned_steps, written_steps}
use Rattle.schedule_states.specs.Requests.{write_of}
use Rattle.schedule_states.proofs.line_table.LineTable.serve.Goals as goal

pub returns-in-Some-clause-served : goal.returns-in-Some-clause-served
returns-in-Some-clause-served c =
    let is : written c.args.request c.args.reply ≡ Some (write_of c.in-Some.write) = search rules in
    rw (written_steps c.args.hart c.args.request c.args.reply c.in-Some.write is, is) c.store.ensures.stored

pub returns-in-Cbo-Done-clause-served : goal.returns-in-Cbo-Done-clause-served
returns-in-Cbo-Done-clause-served c =
    rw (c.in-Cbo-Done.is-0, c.in-Cbo-Done.is-1, cleaned_steps c.args.hart c.in-Cbo-Done.address c.in-Cbo-Done.op-0) c.clean.ensures.cleaned

pub returns-in-Fence-default-clause-served : goal.returns-in-Fence-default-clause-served
returns-in-Fence-default-clause-served c =
    let done : c.args.reply ≡ Done = rw c.in-Fence-default.is-0 at c.requires.reply.1 in
    rw (c.in-Fence-default.is-0, done) c.fence.ensures.fenced
