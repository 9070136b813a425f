use Rattle.std.proofs.Common.{◌≡◌, map, take}
use Rattle.std.specs.List.{flat_map}
use Rattle.nova_log.specs.Questions.{IsThrough}
use Rattle.nova_log.specs.Volumes.{log_in, log_questions}
use Rattle.nova_log.proofs.recovery.read_logs.Given as goal

abbrev pub invariant-loop-inode : goal.invariant-loop-inode
invariant-loop-inode g l =
    let medium = g.S.LineSource.medium l.fn.source in
    record {
      same : g.S.LineSource.medium l.source ≡ medium;
      logs : l.volume ≡ map (log_in l.geometry medium) (take l.inode-index l.inodes);
      through : IsThrough (flat_map (log_questions l.geometry medium) (take l.inode-index l.inodes)) (g.S.LineSource.asked l.fn.source) (g.S.LineSource.asked l.source);
    }
