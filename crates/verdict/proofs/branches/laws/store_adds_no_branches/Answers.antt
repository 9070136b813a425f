use Rattle.verdict.proofs.Carrying.{store_over}
use Rattle.verdict.proofs.branches.laws.store_adds_no_branches.Goals as goal

pub returns : goal.returns
returns g c = store_over g.Before.Asking.alike g.After.Asking.alike g.Before.Asking.asks g.After.Asking.asks
