use Rattle.std.proofs.Common.{inl, refl}
use Rattle.std.proofs.lemmas.Result.{IfOk-weaker}
use Rattle.schedule_states.proofs.Judging.{final_leads, nowhere_more}
use Rattle.schedule_states.proofs.Watching.{heard_then}
use Rattle.schedule_states.proofs.exploring.explore.Goals as goal

pub returns-in-Some-clause-requests : goal.returns-in-Some-clause-requests
returns-in-Some-clause-requests g c = final_leads c.in-Some.explored _ _ (rw c.in-Some.is at c.in_ok-explored.ensures.only)

pub explore_by-requires-clause-reduced : goal.explore_by-requires-clause-reduced
explore_by-requires-clause-reduced g c κs within = inl refl

pub returns-clause-kept : goal.returns-clause-kept
returns-clause-kept g c = (
  c.explore_by.ensures.kept.0,
  λ events full image good. c.explore_by.ensures.kept.1 events full image (c.explore_claiming.ensures.kept.1 events full image good),
)

pub returns-clause-requests : goal.returns-clause-requests
returns-clause-requests g c = IfOk-weaker c.explore_by.result _ _ (λ explored is. (is.0, nowhere_more explored _ _ (λ requests stuck. stuck refl) is.1)) c.explore_by.ensures.requests

pub returns-clause-told : goal.returns-clause-told
returns-clause-told g c = heard_then _ _ _ _ c.explore_claiming.ensures.told c.explore_by.ensures.told
