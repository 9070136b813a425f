use Rattle.std.proofs.Common.{◌∙◌, sym, ap, arith}
use Rattle.workers.proofs.StopWordSteps.{look_at}
use Rattle.workers.proofs.stop_word.word.StopWord.look.Goals as goal

pub load-requires : goal.load-requires
load-requires c =
    let table = c.self.inside.table.shared in
    let seat = c.seat.inside.seat in
    let i = c.seat.invariant in
    let words = c.self.invariant.1 in (
      ap (λ s. s.table) c.seat.view_is ∙ (c.requires ∙ sym (ap (λ d. d.table) c.self.view_is)),
      omega arith,
      look_at table.key.seats table.table_id.slots seat.id seat.me (omega arith),
    )
