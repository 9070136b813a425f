use Rattle.std.proofs.Common.{◌+◌, sym}
use Rattle.std.proofs.lemmas.List.{take_rest}
use Rattle.machine.proofs.RunLemmas.{busy_found}
use Rattle.machine.proofs.schedule.joining.first_busy.Goals as goal

pub returns : goal.returns
returns c = rw (take_rest c.args.items.now (c.in_ok-start.start + 1)) (busy_found c.args.items.now c.in_ok-start.start _ (sym c.in_ok-start.ensures))
