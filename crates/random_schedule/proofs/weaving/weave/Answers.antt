use Rattle.std.proofs.Common.{◌∙◌}
use Rattle.std.proofs.lemmas.Result.{IfOk-weaker}
use Rattle.random_schedule.proofs.Weaves.{woven_alike}
use Rattle.random_schedule.proofs.weaving.weave.Goals as goal

pub returns : goal.returns
returns c = IfOk-weaker c.weave_sorted.result _ _ (λ woven same. (rw c.deref.ensures.value at same) ∙ woven_alike 0 _ _ _ c.in_ok-sort.ensures.stable) c.weave_sorted.ensures
