use Rattle.std.proofs.Common.{◌≡◌, [], map, take}
use Rattle.std.specs.Prelude.{filter}
use Rattle.image_check.specs.Growth.{is_shown}
use Rattle.image_check.specs.Planned.{planned}
use Rattle.image_check.proofs.legal.any_shown.Given as goal

abbrev pub invariant-loop-operation : goal.invariant-loop-operation
invariant-loop-operation l =
    filter (λ op. is_shown l.settled l.shown (planned l.plan.operations op)) (take l.operation-index (map (λ u. u.op) l.under_way)) ≡ []
