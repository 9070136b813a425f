use Rattle.std.proofs.Common.{◌*◌, ◌+◌, ◌/◌, arith, ◌∙◌}
use Rattle.nova_log.proofs.Writing.{entry_there, item_there, no_entry, no_item}
use Rattle.nova_log.proofs.log_upgrade.lines.part_line.Goals as goal

pub returns-in-Some : goal.returns-in-Some
returns-in-Some c =
    let part = c.args.part in
    let got = item_there c.log-entries.result.now (31 * part.index + c.args.line / 2) c.in-Some.entry c.in-Some.ensures.lookup in
    c.entry_half.ensures ∙ entry_there c.args.volume.now part c.args.line c.in-Some.entry.now (omega arith) (rw c.log-entries.ensures at got)

pub returns-in-None : goal.returns-in-None
returns-in-None c =
    let part = c.args.part in
    let got = no_item c.log-entries.result.now (31 * part.index + c.args.line / 2) c.in-None.ensures.lookup in
    no_entry c.args.volume.now part c.args.line (omega arith) (rw c.log-entries.ensures at got)
