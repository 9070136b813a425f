use Rattle.nova_log.proofs.Volumes.{made_fresh}
use Rattle.nova_log.proofs.make.mkfs.Goals as goal

pub returns-clause-ok : goal.returns-clause-ok
returns-clause-ok c =
    made_fresh c.args.layout c.args.inodes c.args.pages c.args.journals c.args.lines
    c.in_ok-medium.medium c.write_line.new.self c.write_inodes.new.medium
    c.in_ok-medium.ensures.ok (rw (← c.superblock.ensures) c.write_line.ensures.changed)
    c.write_inodes.ensures.inodes c.in_ok-medium.ensures.whole.least
