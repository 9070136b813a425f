-- What is told of an image is told of the cut.
use Rattle.std.proofs.Common.{◌∙◌, refl}
use Rattle.command_line.proofs.cut_reasons.explained_cut.Goals as goal

pub returns-clause-told : goal.returns-clause-told
returns-clause-told c = record {
  whole = c.in_ok-whole.whole;
  explained = c.in_ok-whole.ensures.ok;
  told = rw c.is_empty.ensures at c.told_of.ensures;
  traced = c.in_ok-traced.ensures.value;
  ended = rw (c.events.ensures.value, c.trace.ensures.value) refl;
}
