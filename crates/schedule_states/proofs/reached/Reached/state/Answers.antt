use Rattle.std.proofs.Common.{◌≡◌, ◌<◌, ◌++◌, ◌∷◌, [], length, slice_index_or, rules}
use Rattle.std.proofs.lemmas.Option.{slice_get_within}
use Rattle.schedule_states.proofs.Numbering.{parts_more}
use Rattle.schedule_states.proofs.reached.Reached.state.Goals as goal

pub loop-hart-preserved : goal.loop-hart-preserved
loop-hart-preserved g c =
    let pushed : c.push.new.self.items ≡ c.loop-hart.harts.items ++ c.part-part.result ∷ [] = search rules in
    rw pushed (parts_more c.args.self.now c.args.numbers.now c.loop-hart.hart c.loop-hart.harts.items c.part-part.result c.loop-hart.invariant (search rules))

pub part-part-requires : goal.part-part-requires
part-part-requires g c =
    let part = c.requires.harts c.loop-hart.hart (search rules) in
    let there : slice_index_or c.args.numbers.now.harts c.loop-hart.hart 0 < length c.args.self.now.hart_parts = slice_get_within c.args.self.now.hart_parts _ part.0 part.1 in
    search rules
