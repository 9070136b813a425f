use Rattle.std.proofs.Common.{◌≡◌, false, length}
use Rattle.std.specs.Prelude.{All}
use Rattle.nova_log.specs.declared.kept.LogReading.{LogReading}
use Rattle.nova_log.proofs.kept.no_readings.Given as goal

abbrev pub invariant-loop-inode : goal.invariant-loop-inode
invariant-loop-inode l = record {
  size : length l.readings.items ≡ l._inode;
  none : All (λ (reading : LogReading). reading.is_kept ≡ false) l.readings.items;
}
