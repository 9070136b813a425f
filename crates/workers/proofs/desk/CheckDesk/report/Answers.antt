use Rattle.std.proofs.Common.{◌∙◌, sym, ap, arith}
use Rattle.workers.proofs.Steps.{report_at}
use Rattle.workers.proofs.desk.CheckDesk.report.Goals as goal

pub fetch_min-requires : goal.fetch_min-requires
fetch_min-requires c =
    let table = c.self.inside.table.shared in
    let seat = c.seat.inside.seat in
    let i = c.seat.invariant in
    let words = c.self.invariant.2 in (
      ap (λ s. s.desk.table) c.seat.view_is ∙ (ap (λ d. d.table) c.requires.desk ∙ sym (ap (λ d. d.name.table) c.self.view_is)),
      omega arith,
      report_at table.key.moments table.key.workers table.table_id.slots seat.id c.from.result seat.me (omega arith) (omega arith),
    )
