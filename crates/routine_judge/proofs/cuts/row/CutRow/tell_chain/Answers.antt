use Rattle.std.proofs.Common.{Option, ℕ, subst, sym}
use Rattle.routine_judge.proofs.Unsettled.{tell_bad, tell_many}
use Rattle.std.specs.Prelude.{IfSome}
use Rattle.routine_judge.specs.Chains.{BeginsAt, IsBadChain, IsCutsVerdict}
use Rattle.routine_judge.specs.declared.cuts.chain.Chain.{Chain}
use Rattle.routine_judge.specs.declared.cuts.outcome.CutsVerdict.TheVariants as verdicts
use Rattle.routine_judge.proofs.cuts.row.CutRow.tell_chain.Goals as goal

pub returns-in-Some : goal.returns-in-Some
returns-in-Some c =
    let row = c.args.self.now in
    let chain = c.in-Some.chain in
    let view = row.run.now in
    tell_bad row.goes_on view c.args.asked row.first row.end c.args.cuts c.args.moment chain.links.items chain.cause c.requires
    (subst (λ (found : Option Chain). IfSome found (λ one. BeginsAt c.args.moment c.args.cuts one.links.items)) c.in-Some.is c.in_ok-found.ensures.begins)
    (subst (λ (found : Option Chain). IfSome found (λ one. IsBadChain view c.args.moment one.links.items one.cause)) c.in-Some.is c.in_ok-found.ensures.bad)

pub returns : goal.returns
returns c =
    let row = c.args.self.now in
    subst (λ (k : Option ℕ). IsCutsVerdict row.goes_on row.run.now c.args.asked row.first row.end (verdicts.TooMany c.args.moment k)) (sym c.one_less.ensures)
    (tell_many row.goes_on row.run.now c.args.asked row.first row.end c.args.cuts c.args.moment c.requires)
