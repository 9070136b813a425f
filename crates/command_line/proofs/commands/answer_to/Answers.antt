-- The answer of a help text.
use Rattle.std.proofs.Common.{refl}
use Rattle.command_line.proofs.commands.answer_to.Goals as goal

pub returns-in-Help-clause-answers : goal.returns-in-Help-clause-answers
returns-in-Help-clause-answers c = rw c.in-Help.is record {
  answer = c.of.result;
  prints = refl;
  text_is = c.of.ensures.text;
  done = c.of.ensures.status;
}
