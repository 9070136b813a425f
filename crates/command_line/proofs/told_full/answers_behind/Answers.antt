-- The text behind the answer is that of the answers on all full images.
use Rattle.command_line.proofs.told_full.answers_behind.Goals as goal

pub returns : goal.returns
returns c = record {
  full = c.in_ok-full.full;
  are = c.in_ok-full.ensures;
  text = rw c.in_ok-text.ensures at c.in_ok-told.ensures.0;
  status = c.in_ok-told.ensures.1;
}
