use Rattle.std.proofs.Common.{ℕ, List, subst}
use Rattle.store_trace.specs.Cut.{number_in}
use Rattle.machine.specs.Steps.{all_steps}
use Rattle.witness.specs.Explains.{steps_by}
use Rattle.witness.specs.Walking.{Follows}
use Rattle.witness.proofs.Counting.{few_explained}
use Rattle.witness.proofs.Leaving.{explains_cut}
use Rattle.witness.proofs.explaining.explain.Goals as goal

pub returns-clause-ok : goal.returns-clause-ok
returns-clause-ok c =
    explains_cut c.args.recorded.now c.args.moment c.args.cut.now (all_steps c.in_ok-explained.field-0) c.in_ok-demand_cut.ensures.ok
    (subst (λ (entries : List (ℕ × ℕ)). Follows c.args.recorded.now (number_in entries) c.args.moment
    (steps_by c.args.recorded.now.steps c.args.moment) (all_steps c.in_ok-explained.field-0)) c.entries.ensures c.in_ok-explained.ensures.follows)

pub returns-clause-few : goal.returns-clause-few
returns-clause-few c =
    few_explained c.args.recorded.now c.args.moment c.in_ok-explained.field-0 (returns-clause-ok c).hart_steps_are
