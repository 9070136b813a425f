use Rattle.std.proofs.Common.{Option, ℕ, subst, sym}
use Rattle.routine_judge.proofs.Unsettled.{tell_long, tell_many}
use Rattle.routine_judge.specs.Chains.{IsCutsVerdict}
use Rattle.routine_judge.specs.declared.cuts.outcome.CutsVerdict.TheVariants as verdicts
use Rattle.routine_judge.proofs.cuts.row.CutRow.tell.Goals as goal

pub returns-in-TooMany : goal.returns-in-TooMany
returns-in-TooMany c =
    let row = c.args.self.now in
    let end = c.args.end in
    subst (λ (k : Option ℕ). IsCutsVerdict row.goes_on row.run.now c.args.asked row.first row.end (verdicts.TooMany end.moment k)) (sym c.one_less.ensures)
    (tell_many row.goes_on row.run.now c.args.asked row.first row.end c.args.cuts end.moment c.requires.first)

pub returns-in-TooLong : goal.returns-in-TooLong
returns-in-TooLong c =
    let row = c.args.self.now in
    tell_long row.goes_on row.run.now c.args.asked row.first row.end c.args.cuts c.args.end c.requires.first c.requires.long c.in-TooLong.is
