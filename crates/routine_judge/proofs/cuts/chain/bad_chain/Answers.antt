use Rattle.std.proofs.Common.{Option, ap}
use Rattle.std.specs.Prelude.{IfSome}
use Rattle.std.proofs.lemmas.Result.{IfOk-weaker}
use Rattle.routine_judge.proofs.Chaining.{some_chain}
use Rattle.routine_judge.proofs.Sourcing.{basis_source}
use Rattle.routine_judge.specs.Chains.{IsBadChain}
use Rattle.routine_judge.specs.Gathered.{AreAnswers}
use Rattle.routine_judge.specs.RightAnswers.{IsSource, Source}
use Rattle.routine_judge.specs.Standing.{source_at}
use Rattle.routine_judge.specs.Views.{JudgeView}
use Rattle.routine_judge.specs.declared.cuts.chain.Chain.{Chain}
use Rattle.routine_judge.proofs.cuts.chain.bad_chain.Goals as goal

pub chain_by-requires-clause-steps : goal.chain_by-requires-clause-steps
chain_by-requires-clause-steps c = ap (λ (v : JudgeView). v.steps) c.run.view_is

pub returns-clause-bad : goal.returns-clause-bad
returns-clause-bad c =
    let view = c.args.run.now in
    let m = c.args.moment in
    let window = c.renew.new.self.window in
    let right = c.renew.new.self.right in
    let source = source_at view window m in
    IfOk-weaker c.chain_by.result
    (λ (found : Option Chain). IfSome found (λ chain. (from : Source) → IsSource view m from → AreAnswers view from right → IsBadChain view m chain.links.items chain.cause))
    (λ (found : Option Chain). IfSome found (λ chain. IsBadChain view m chain.links.items chain.cause))
    (λ found all. some_chain view m right found source (basis_source view.right view window m c.in_ok-renew.ensures.basis) c.in_ok-renew.ensures.right all) c.chain_by.ensures.bad
