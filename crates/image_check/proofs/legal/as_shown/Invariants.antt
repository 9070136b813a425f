use Rattle.std.proofs.Common.{◌≡◌, map, take, Some}
use Rattle.std.specs.Prelude.{filter}
use Rattle.std.specs.List.{flat_map}
use Rattle.image_check.specs.Growth.{is_shown}
use Rattle.image_check.specs.Legal.{with_entries}
use Rattle.image_check.specs.Planned.{planned}
use Rattle.image_check.proofs.legal.as_shown.Given as goal

abbrev pub invariant-loop-operation : goal.invariant-loop-operation
invariant-loop-operation l =
    with_entries l.settled (flat_map (planned l.plan.operations)
    (filter (λ op. is_shown l.settled l.shown (planned l.plan.operations op)) (take l.operation-index (map (λ u. u.op) l.under_way))))
    ≡ Some l.expected
