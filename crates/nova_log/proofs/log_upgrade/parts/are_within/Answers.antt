use Rattle.std.proofs.Common.{◌≡◌, ap, arith, length}
use Rattle.nova_log.specs.Logs.{log_of}
use Rattle.nova_log.specs.Parts.{page_count}
use Rattle.nova_log.proofs.Room.{parts_through, through_all, through_each, through_more, through_none}
use Rattle.nova_log.proofs.log_upgrade.parts.are_within.Goals as goal

pub loop-inode-init : goal.loop-inode-init
loop-inode-init c = omega (arith, through_none c.args.volume.now)

pub returns-then-count-left : goal.returns-then-count-left
returns-then-count-left c =
    let logs = c.args.volume.now in
    let inode = c.loop-inode.inode in
    let size : c.page_count-count.result ≡ page_count (length (log_of logs inode)) = rw (← c.log.ensures) c.page_count-count.ensures in
    let each = through_each logs inode (omega (arith, c.inodes-inode-end.ensures)) in
    (λ t. absurd (cc), λ enough. absurd (omega (arith, each, size)))

pub loop-inode-preserved : goal.loop-inode-preserved
loop-inode-preserved c =
    let logs = c.args.volume.now in
    let inode = c.loop-inode.inode in
    let size : c.page_count-count.result ≡ page_count (length (log_of logs inode)) = rw (← c.log.ensures) c.page_count-count.ensures in
    omega (arith, through_more logs inode, size)

pub returns : goal.returns
returns c =
    let logs = c.args.volume.now in
    let inode = c.loop-inode.inode in
    let last : inode ≡ length logs = omega (arith, c.inodes-inode-end.ensures) in
    let all : parts_through logs inode ≡ parts_through logs (length logs) = ap (parts_through logs) last in
    (λ t. omega (arith, through_all logs, all), λ enough. cc)
