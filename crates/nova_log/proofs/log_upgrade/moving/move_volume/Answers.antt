use Rattle.std.proofs.Common.{refl, ◌∙◌}
use Rattle.nova_log.proofs.Room.{has_room}
use Rattle.nova_log.proofs.Upgrading.{all_written}
use Rattle.nova_log.proofs.log_upgrade.moving.move_volume.Goals as goal

pub returns-clause-ok : goal.returns-clause-ok
returns-clause-ok c =
    let logs = c.args.volume.now in
    let made = c.write_lines.new.medium in
    has_room logs c.args.journals c.args.pages c.args.lines c.in_ok-check_room.ensures.counts c.in_ok-check_room.ensures.pages
    ∙ rw (all_written logs c.inodes.result c.args.pages c.args.journals c.args.lines c.in_ok-made.made made c.inodes.ensures c.in_ok-made.ensures.ok
    c.write_lines.ensures.size c.write_lines.ensures.first c.write_lines.ensures.body) refl
