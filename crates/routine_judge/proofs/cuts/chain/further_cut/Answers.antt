use Rattle.std.proofs.Common.{Option, subst}
use Rattle.std.specs.Prelude.{IfSome}
use Rattle.routine_judge.proofs.Chaining.{cut_of_run, run_lines}
use Rattle.routine_judge.specs.ChainCuts.{IsCutOver}
use Rattle.routine_judge.specs.declared.cuts.chain.FurtherCut.{FurtherCut}
use Rattle.routine_judge.proofs.cuts.chain.further_cut.Goals as goal

pub least_cut_in-requires-clause-named : goal.least_cut_in-requires-clause-named
least_cut_in-requires-clause-named c =
    let traced = c.in_ok-run.run' in
    run_lines c.args.routine.now.program c.args.chain.image c.args.rule.steps c.run_traced.new.self.asked traced.trace.events traced.found c.in_ok-run.ensures.ok

pub returns-clause-ok : goal.returns-clause-ok
returns-clause-ok c =
    let traced = c.in_ok-run.run' in
    let over = subst (λ (found : Option FurtherCut). IfSome found (IsCutOver c.args.chain traced)) c.in-Some.is c.in_ok-found.ensures.ok in
    record {
      link = c.in-Some.cut.link;
      longer = c.in_ok-push.ensures.items;
      cut_in = cut_of_run c.args.routine.now.program c.args.rule.steps c.run_traced.new.self.asked c.args.chain traced c.in-Some.cut c.in_ok-run.ensures.ok over;
    }
