use Rattle.command_line.proofs.replying.read_reply.Goals as goal

pub returns-in-Ok-None-clause-err : goal.returns-in-Ok-None-clause-err
returns-in-Ok-None-clause-err g c = record {
  line = c.in_ok-line.line.items;
  read = c.in_ok-line.ensures.ok;
  none = rw (c.in-Ok-None.field-0-is, c.deref.ensures.value) at c.in-Ok-None.ensures.says;
}
