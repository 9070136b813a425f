-- By what the routine comes to on the image.
use Rattle.std.proofs.Common.{Ok, Err, refl}
use Rattle.command_line.proofs.told_answers.answers_at.Goals as goal

pub returns-in_ok-right-in-Ok : goal.returns-in_ok-right-in-Ok
returns-in_ok-right-in-Ok c = record {
  tells = record { found = Ok c.in-Ok.answer; is_found = rw (c.in-Ok.is, c.medium.ensures, c.trace.ensures) at c.in_ok-answer.ensures.ok; are_told = (refl, c.in_ok-right-in-Ok.ensures) };
}

pub returns-in-Err : goal.returns-in-Err
returns-in-Err c = record {
  tells = record { found = Err c.in-Err.field-0; is_found = rw (c.in-Err.is, c.medium.ensures, c.trace.ensures) at c.in_ok-answer.ensures.ok; are_told = refl };
}
