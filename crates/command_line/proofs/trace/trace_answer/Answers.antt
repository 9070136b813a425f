-- The text by the program's places is that by its file.
use Rattle.std.proofs.Common.{◌∙◌}
use Rattle.command_line.proofs.trace.trace_answer.Goals as goal

pub returns : goal.returns
returns c = record {
  answer = (c.of.ensures.text ∙ rw (c.deref.ensures.value, c.in_ok-traced.ensures.value, c.in_ok-places.ensures.origins) at c.in_ok-text.ensures, c.of.ensures.status);
}
