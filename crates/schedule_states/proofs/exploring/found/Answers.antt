use Rattle.std.proofs.Common.{refl}
use Rattle.schedule_states.proofs.exploring.found.Goals as goal

pub returns : goal.returns
returns g c = (c.args.stop, c.in_ok-requests.requests, refl, c.in_ok-requests.ensures)
