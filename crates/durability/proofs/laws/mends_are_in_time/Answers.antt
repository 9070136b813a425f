use Rattle.durability.proofs.Mending.{lacks_clean, lacks_fence}
use Rattle.durability.specs.Mends.{event_of}
use Rattle.durability.proofs.laws.mends_are_in_time.Goals as goal

pub returns-clause-fence : goal.returns-clause-fence
returns-clause-fence c =
    λ events m kept lost behind deadline hart line place mend last is low high.
    lacks_fence events lost behind (event_of deadline) hart line place mend.1 last is low high

pub returns-clause-clean : goal.returns-clause-clean
returns-clause-clean c =
    λ events m kept lost line behind deadline hart place further mend last low middle high.
    rw mend.0 (lacks_clean events lost behind (event_of deadline) hart place further mend.2 last low middle high)
