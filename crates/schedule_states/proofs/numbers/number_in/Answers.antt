use Rattle.std.proofs.Common.{sym}
use Rattle.schedule_states.proofs.Looking.{found_passes}
use Rattle.schedule_states.proofs.numbers.number_in.Goals as goal

pub returns : goal.returns
returns g c = record {
  found = c.in_ok-number._found.now;
  here = c.in_ok-number.ensures.stored;
  equal = found_passes (g.T.PartialEq.eq c.args.value.now) c.args.values.now.keys c.in_ok-number._found.now (sym c.in_ok-number.ensures.key);
}
