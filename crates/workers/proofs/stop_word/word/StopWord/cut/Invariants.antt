use Rattle.std.proofs.Common.{◌≡◌, ◌-◌, ◌+◌, [], replicate}
use Rattle.workers.specs.StopWordRule.{newcomer}
use Rattle.workers.specs.Stops.{fresh}
use Rattle.workers.proofs.stop_word.word.StopWord.cut.Given as goal

abbrev pub invariant-loop : goal.invariant-loop
invariant-loop l = (l.first.table_id ≡ l.self.table)
    × (l.first.me ≡ (newcomer (l.self.seats + 1 - l.counter), []))
    × (l.end ≡ l.self.seats)
    × (l.seats.items ≡ replicate (l.counter - 1) (fresh l.self.table))
