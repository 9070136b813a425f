use Rattle.durability.proofs.Leaving.{further_changes}
use Rattle.durability.proofs.redundant.laws.none_is_left.Goals as goal

pub returns : goal.returns
returns c = λ events found f before event after place kind. further_changes events found f before event after place kind
