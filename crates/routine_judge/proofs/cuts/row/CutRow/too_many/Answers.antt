use Rattle.std.proofs.Common.{Option, Some, subst}
use Rattle.routine_judge.proofs.Unsettled.{any_after}
use Rattle.routine_judge.specs.CutRows.{IsEndBy}
use Rattle.routine_judge.specs.declared.cuts.row.RowEnd.{RowEnd}
use Rattle.routine_judge.proofs.cuts.row.CutRow.too_many.Goals as goal

pub returns-in_default-found : goal.returns-in_default-found
returns-in_default-found g c =
    let row = c.args.self.now in
    let all = subst (λ (found : Option RowEnd). IsEndBy row.goes_on row.run.now (Some 64) row.first row.end found) c.in_default-found.is c.in_ok-found.ensures in
    any_after row.goes_on row.run.now c.args.asked row.first row.end c.args.last c.in-Any.is all c.requires
