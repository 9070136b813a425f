use Rattle.std.proofs.Common.{◌≡◌, ◌++◌, ◌∷◌, []}
use Rattle.workers.specs.StopWordRule.{Gathers}
use Rattle.workers.proofs.stop_word.word.StopWord.join.Given as goal

abbrev pub invariant-loop-seat : goal.invariant-loop-seat
invariant-loop-seat l = (l.all.table_id ≡ l.self.table)
    × (l.all.me.1 ≡ [])
    × Gathers (l.fn.first ∷ l.yielded) l.all.me.0
    × (l.yielded ++ l.seat-iterator.rest.items ≡ l.fn.others.items)
