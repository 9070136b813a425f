use Rattle.std.proofs.Common.{refl}
use Rattle.routine_judge.proofs.Equal.{equal_states, equal_words}
use Rattle.routine_judge.proofs.Sequencing.{other_state}
use Rattle.routine_judge.proofs.order.laws.sequential_states_stand.Goals as goal

pub returns-clause-kept : goal.returns-clause-kept
returns-clause-kept c = λ events event state begins ends is. other_state events event state state begins ends refl refl is

pub returns-clause-words : goal.returns-clause-words
returns-clause-words c = equal_words

pub returns-clause-states : goal.returns-clause-states
returns-clause-states c = equal_states
