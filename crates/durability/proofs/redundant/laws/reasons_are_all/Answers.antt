use Rattle.std.proofs.Common.{[]}
use Rattle.durability.proofs.Decisions.{answers}
use Rattle.durability.proofs.Greedy.{needless_from_answers}
use Rattle.durability.proofs.Leaving.{needless_once}
use Rattle.durability.specs.Found.{with_reasons}
use Rattle.durability.proofs.redundant.laws.reasons_are_all.Goals as goal

pub returns-clause-exist : goal.returns-clause-exist
returns-clause-exist c = λ events.
    let told = answers [] events in
    (with_reasons 1 told.0, needless_from_answers events told.0 told.1)

pub returns-clause-once : goal.returns-clause-once
returns-clause-once c = λ events found others f g. needless_once events found others f g
