use Rattle.crash_test.proofs.runs.start_program.Goals as goal

pub returns-in-Ok-clause-ok : goal.returns-in-Ok-clause-ok
returns-in-Ok-clause-ok c = record {
  within = c.in-Ok.ensures.within;
  represents = c.in-Ok.ensures.ok;
  lines = c.in-Ok.ensures.lines;
  capacity = c.in-Ok.ensures.capacity;
}

pub returns-in-Err-clause-err : goal.returns-in-Err-clause-err
returns-in-Err-clause-err c = c.in-Err.ensures.refused
