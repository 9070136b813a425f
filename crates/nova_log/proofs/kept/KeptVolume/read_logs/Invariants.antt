use Rattle.std.proofs.Common.{◌≡◌, ℕ, List, length, map, take}
use Rattle.std.specs.List.{flat_map}
use Rattle.nova_log.specs.Kept.{AreAlikeAt, AreKept}
use Rattle.nova_log.specs.Questions.{IsThrough}
use Rattle.nova_log.specs.Volumes.{log_in, log_questions}
use Rattle.nova_log.proofs.kept.KeptVolume.read_logs.Given as goal

abbrev pub invariant-loop-n : goal.invariant-loop-n
invariant-loop-n g l =
    let medium = g.S.LineSource.medium l.fn.source in
    let geometry = l.fn.self.geometry in
    record {
      same : g.S.LineSource.medium l.source ≡ medium;
      same_geometry : l.self.geometry ≡ geometry;
      volume : length l.self.volume ≡ length l.inodes;
      readings : length l.self.readings.items ≡ length l.inodes;
      logs : take l.n l.self.volume ≡ map (log_in geometry medium) (take l.n l.inodes);
      through : IsThrough (flat_map (log_questions geometry medium) (take l.n l.inodes)) (g.S.LineSource.asked l.fn.source) (g.S.LineSource.asked l.source);
      kept : (other : List (List ℕ)) → AreAlikeAt (g.F.FixedLines.fixed l.fixed) medium other → AreKept other l.fn.self → AreKept other l.self;
    }
