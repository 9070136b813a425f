-- One more in front of those that come later.
use Rattle.std.proofs.Common.{refl}
use Rattle.command_line.proofs.cut_reasons.with_cut.Goals as goal

pub returns-clause-told : goal.returns-clause-told
returns-clause-told c = record {
  left = c.args.left;
  later = c.args.later.images.items;
  cut = c.in_ok-cut.cut;
  next = c.args.later.cuts.items;
  images_are = c.in_ok-with_first.ensures.images;
  cuts_are = c.in_ok-with_first.ensures.cuts;
  leaves = c.requires.leaves;
  explained = rw c.deref.ensures.value at c.in_ok-cut.ensures.told;
  further = (refl, refl, refl);
}
