use Rattle.std.proofs.Common.{◌-◌, ◌/◌, arith, ◌∙◌}
use Rattle.nova_log.proofs.Places.{held_part}
use Rattle.nova_log.proofs.Writing.{item_there, no_item, no_page, page_there}
use Rattle.nova_log.proofs.log_upgrade.lines.line_behind.Goals as goal

pub part_line-requires-clause-inode : goal.part_line-requires-clause-inode
part_line-requires-clause-inode c =
    let h = c.in-Some.ensures.lookup in
    (held_part c.args.volume.now c.args.parts.now ((c.args.n - 256) / 64) c.in-Some.part.now c.requires.parts h.3.0 h.3.1).0

pub part_line-requires-clause-index : goal.part_line-requires-clause-index
part_line-requires-clause-index c =
    let h = c.in-Some.ensures.lookup in
    (held_part c.args.volume.now c.args.parts.now ((c.args.n - 256) / 64) c.in-Some.part.now c.requires.parts h.3.0 h.3.1).1

pub returns-in-Some : goal.returns-in-Some
returns-in-Some c =
    let got = item_there c.args.parts.now ((c.args.n - 256) / 64) c.in-Some.part c.in-Some.ensures.lookup in
    c.part_line.ensures ∙ page_there c.args.volume.now c.args.n c.in-Some.part.now c.requires.inodes (omega arith) (rw c.requires.parts at got)

pub returns-in-None : goal.returns-in-None
returns-in-None c =
    let got = no_item c.args.parts.now ((c.args.n - 256) / 64) c.in-None.ensures.lookup in
    no_page c.args.volume.now c.args.n c.requires.inodes (omega arith) (rw c.requires.parts at got)
