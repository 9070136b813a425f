use Rattle.image_check.proofs.Following.{state_kept, state_one}
use Rattle.image_check.proofs.laws.plan_states_stand.Goals as goal

pub returns-clause-kept : goal.returns-clause-kept
returns-clause-kept c = state_kept

pub returns-clause-one : goal.returns-clause-one
returns-clause-one c = state_one
