use Rattle.std.proofs.Common.{◌≡◌, ◌-◌, ◌+◌, [], replicate}
use Rattle.workers.specs.Desks.{fresh}
use Rattle.workers.specs.Rule.{newcomer}
use Rattle.workers.proofs.desk.CheckDesk.cut.Given as goal

abbrev pub invariant-loop-worker : goal.invariant-loop-worker
invariant-loop-worker l = (l.first.table_id ≡ l.self.name.table)
    × (l.first.me ≡ (newcomer (l.self.workers + 1 - l.worker) l.self.name.moments, []))
    × (l.worker-end ≡ l.self.workers)
    × (l.seats.items ≡ replicate (l.worker - 1) (fresh l.self.name))
