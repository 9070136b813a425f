use Rattle.report.proofs.Addresses.{one_address}
use Rattle.report.proofs.laws.one_address.Goals as goal

pub returns : goal.returns
returns c = one_address
