use Rattle.std.proofs.Common.{refl}
use Rattle.routine_judge.proofs.Sourcing.{none_kept}
use Rattle.routine_judge.proofs.answers.MomentAnswers.none.Goals as goal

pub returns : goal.returns
returns c = λ view.
    none_kept view.right view _ refl (c.none.ensures.order view.events) (c.none-2.ensures view)
