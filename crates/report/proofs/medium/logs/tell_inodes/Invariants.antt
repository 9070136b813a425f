use Rattle.std.proofs.Common.{◌≡◌, string_bytes}
use Rattle.std.specs.List.{enumerate_from}
use Rattle.report.specs.Volumes.{numbered_inode}
use Rattle.report.proofs.MediumLines.{lines_below}
use Rattle.report.proofs.medium.logs.tell_inodes.Given as goal

abbrev pub invariant-loop-inode : goal.invariant-loop-inode
invariant-loop-inode l = string_bytes l.text ≡ lines_below (string_bytes l.initial.text) numbered_inode (enumerate_from 0 l.volume) l.inode
