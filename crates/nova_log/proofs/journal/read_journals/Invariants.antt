use Rattle.std.proofs.Common.{◌≡◌}
use Rattle.std.specs.List.{flat_map, range_with_len}
use Rattle.nova_log.specs.Journals.{HasRestored, journal_questions}
use Rattle.nova_log.specs.Questions.{IsThrough}
use Rattle.nova_log.proofs.journal.read_journals.Given as goal

abbrev pub invariant-loop-j : goal.invariant-loop-j
invariant-loop-j g l =
    let medium = g.S.LineSource.medium l.fn.source in
    record {
      same : g.S.LineSource.medium l.source ≡ medium;
      restored : HasRestored medium l.restored l.j;
      through : IsThrough (flat_map (journal_questions l.geometry.inodes medium) (range_with_len 0 l.j)) (g.S.LineSource.asked l.fn.source) (g.S.LineSource.asked l.source);
    }
