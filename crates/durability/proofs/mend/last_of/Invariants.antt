use Rattle.std.proofs.Common.{◌+◌, ◌<◌, ◌≤◌}
use Rattle.durability.specs.Mends.{IsEventOf, is_wanted}
use Rattle.durability.specs.Operations.{IsLast}
use Rattle.durability.proofs.mend.last_of.Given as goal

abbrev pub invariant-loop-at : goal.invariant-loop-at
invariant-loop-at l = record {
  last : IsLast (λ n. (n < l.at + 1) × IsEventOf (is_wanted l.wanted) l.events n) l.last;
  after : l.known ≤ l.last;
}
