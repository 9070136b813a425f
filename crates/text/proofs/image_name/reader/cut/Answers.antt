use Rattle.text.proofs.OneReading.{falls}
use Rattle.text.proofs.image_name.reader.cut.Goals as goal

pub returns-then-not-is_upward : goal.returns-then-not-is_upward
returns-then-not-is_upward c =
    falls c.args.text.now c.in-Some.entries.items (λ same. let never = rw same at c.if-eq.ensures in absurd cc) (rw c.in-Some.is at c.in_ok-entries.ensures)
    (λ up. let never = c.if-not-is_upward.ensures.1 (rw c.deref.ensures.value up) in absurd cc)
