use Rattle.std.proofs.Common.{add-one, arith}
use Rattle.nova_log.proofs.Walks.{is_walk, only_walk}
use Rattle.nova_log.proofs.laws.chains_are_walks.Goals as goal

pub returns-clause-walk : goal.returns-clause-walk
returns-clause-walk c shape pages lines tail more head some clean = rw add-one (is_walk shape pages lines tail more head some (rw add-one at clean))

pub returns-clause-only : goal.returns-clause-only
returns-clause-only c shape pages lines tail more head entries some walk = rw add-one (only_walk shape pages lines tail walk (λ i less. absurd (omega arith)) some)
