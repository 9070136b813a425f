use Rattle.std.proofs.Common.{◌≡◌, true, rules}
use Rattle.schedule_states.proofs.Onward.{parts_there_next}
use Rattle.schedule_states.proofs.reached.Reached.are_others_there.Goals as goal

pub loop-hart-preserved : goal.loop-hart-preserved
loop-hart-preserved g c =
    let told : c.is_part_there.result ≡ true = search rules in
    parts_there_next c.args.self.now c.args.numbers.now.harts c.loop-hart.hart (c.is_part_there.ensures told) c.loop-hart.invariant
