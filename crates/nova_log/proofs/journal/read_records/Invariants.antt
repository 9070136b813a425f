use Rattle.std.proofs.Common.{◌≡◌, ◌-◌, ◌<◌, map}
use Rattle.std.specs.List.{All, flat_map, range_with_len}
use Rattle.nova_log.specs.Journals.{record_at, record_questions}
use Rattle.nova_log.specs.Questions.{IsThrough}
use Rattle.nova_log.proofs.journal.read_records.Given as goal

abbrev pub invariant-loop-r : goal.invariant-loop-r
invariant-loop-r g l =
    let medium = g.S.LineSource.medium l.fn.source in
    record {
      same : g.S.LineSource.medium l.source ≡ medium;
      records : l.records.items ≡ map (record_at medium l.j) (range_with_len l.head (l.r - l.head));
      named : All (λ r. r.inode < 64) l.records.items;
      through : IsThrough (flat_map (record_questions l.inodes medium l.j) (range_with_len l.head (l.r - l.head))) (g.S.LineSource.asked l.fn.source) (g.S.LineSource.asked l.source);
    }
