-- The parts of the text, by the lists behind the references.
use Rattle.report.proofs.LossesLines.{three}
use Rattle.report.proofs.losses.json.unpersisted_json.Goals as goal

pub returns : goal.returns
returns c =
    let ends = rw c.deref.ensures.value at c.in_ok-tell_ends.ensures in
    let outside = rw c.deref-2.ensures.value at c.in_ok-tell_losses.ensures in
    let count = rw (c.deref-3.ensures.value, c.deref-4.ensures.value) at c.count_of-count.ensures in
    three _ _ _ _ _ _ _ c.new-text.ensures.bytes ends outside (rw count at c.in_ok-writeln.ensures.bytes)
