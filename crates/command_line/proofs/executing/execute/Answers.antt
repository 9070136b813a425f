-- What answering leaves, and what is told behind it.
use Rattle.std.proofs.Common.{Ok, Err, refl}
use Rattle.command_line.proofs.executing.execute.Goals as goal

pub returns-in-Ok : goal.returns-in-Ok
returns-in-Ok g c = record {
  ended = Ok c.in-Ok.status;
  between = (c.answer_line.new.files, c.answer_line.new.output, c.answer_line.new.errors);
  ends = rw c.plain_words-plain.ensures at c.in-Ok.ensures;
  status_is = refl;
  quiet = refl;
  told = tt;
}

pub returns-in-Err : goal.returns-in-Err
returns-in-Err g c = record {
  ended = Err c.in-Err.failure;
  between = (c.answer_line.new.files, c.answer_line.new.output, c.answer_line.new.errors);
  ends = rw c.plain_words-plain.ensures at c.in-Err.ensures;
  status_is = c.status.ensures;
  quiet = tt;
  told = c.tell_failure.ensures;
}
