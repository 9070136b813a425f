use Rattle.std.proofs.Common.{◌<◌, length, slice_index_or, rules}
use Rattle.std.proofs.lemmas.Option.{slice_get_within}
use Rattle.schedule_states.proofs.Ending.{running_part, stopped_more, stopped_parts}
use Rattle.schedule_states.proofs.reached.Reached.has_stopped.Goals as goal

pub part-part-requires : goal.part-part-requires
part-part-requires g c =
    let part = c.numbers-numbers.ensures.there.harts c.loop-hart.hart (search rules) in
    let there : slice_index_or c.numbers-numbers.result.harts c.loop-hart.hart 0 < length c.args.self.now.hart_parts = slice_get_within c.args.self.now.hart_parts _ part.0 part.1 in
    search rules

pub loop-hart-preserved : goal.loop-hart-preserved
loop-hart-preserved g c = stopped_more c.args.self.now.hart_parts c.numbers-numbers.result.harts c.loop-hart.hart c.part-part.result c.loop-hart.invariant c.part-part.ensures
    (c.is_running.ensures.no (search rules))

pub returns-then-is_running-clause-running : goal.returns-then-is_running-clause-running
returns-then-is_running-clause-running g c told s t met = running_part c.args.self.now c.args.number c.numbers-numbers.result s t c.loop-hart.hart c.part-part.result
    c.numbers-numbers.ensures.found met (search rules) c.part-part.ensures (c.is_running.ensures.yes (search rules))

pub returns-clause-stopped : goal.returns-clause-stopped
returns-clause-stopped g c told s t met = stopped_parts c.args.self.now c.args.number c.numbers-numbers.result s t c.numbers-numbers.ensures.found met
    (λ h one few got. c.loop-hart.invariant h one (search rules) got)
