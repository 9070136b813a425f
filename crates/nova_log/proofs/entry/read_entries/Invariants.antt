use Rattle.std.proofs.Common.{◌≡◌, map, take}
use Rattle.std.specs.List.{flat_map}
use Rattle.nova_log.specs.Entries.{entry_at, entry_questions}
use Rattle.nova_log.specs.Questions.{IsThrough}
use Rattle.nova_log.proofs.entry.read_entries.Given as goal

abbrev pub invariant-loop-position : goal.invariant-loop-position
invariant-loop-position g l =
    let medium = g.S.LineSource.medium l.fn.source in
    record {
      same : g.S.LineSource.medium l.source ≡ medium;
      log : l.log ≡ map (entry_at medium) (take l.position-index l.positions);
      through : IsThrough (flat_map (entry_questions l.longest medium) (take l.position-index l.positions)) (g.S.LineSource.asked l.fn.source) (g.S.LineSource.asked l.source);
    }
