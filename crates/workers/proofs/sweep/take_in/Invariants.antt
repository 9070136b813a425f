use Rattle.std.proofs.Common.{◌≡◌, ◌++◌, All, length}
use Rattle.workers.specs.Desks.{Sitting, all_bad, all_claimed, all_found, ended_count}
use Rattle.workers.specs.Sweeps.{IsTally}
use Rattle.workers.proofs.sweep.take_in.Given as goal

abbrev pub invariant-loop-one : goal.invariant-loop-one
invariant-loop-one g l = (l.yielded ++ l.one-iterator.rest.items ≡ l.fn.worked.items)
    × (length l.seats.items ≡ length l.yielded)
    × (ended_count l.seats.items ≡ length l.yielded)
    × All (λ (s : Sitting). s.desk ≡ l.desk.name) l.seats.items
    × IsTally (g.J.Judge.passes l.job) (g.J.Judge.fails l.job) l.desk.name.moments (all_claimed l.seats.items) (all_bad l.seats.items) (all_found l.seats.items) l.best
