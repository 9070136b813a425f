use Rattle.std.proofs.Common.{refl}
use Rattle.std.proofs.lemmas.Slice.Eq.{slice_eq-Decides}
use Rattle.schedule_states.proofs.Same.{held_decide}
use Rattle.schedule_states.proofs.laws.equal_lists_are_same.Goals as goal

pub returns : goal.returns
returns c = λ one other equal. (slice_eq-Decides (λ a b. held_decide a b) one.items other.items _ refl).0 equal
