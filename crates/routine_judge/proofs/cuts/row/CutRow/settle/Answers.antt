use Rattle.std.proofs.Common.{Option, subst, sym}
use Rattle.routine_judge.proofs.Unsettled.{end_by}
use Rattle.routine_judge.specs.CutRows.{IsEndBy}
use Rattle.routine_judge.specs.declared.cuts.row.RowEnd.{RowEnd}
use Rattle.routine_judge.proofs.cuts.row.CutRow.settle.Goals as goal

pub returns : goal.returns
returns g c =
    let row = c.args.self.now in
    subst (λ (found : Option RowEnd). IsEndBy row.goes_on row.run.now c.args.most row.first row.end found) (sym c.row_end.ensures)
    (end_by row.goes_on row.run.now c.args.most row.first row.end c.in_ok-verdict.verdict c.in_ok-verdict.ensures.ok)
