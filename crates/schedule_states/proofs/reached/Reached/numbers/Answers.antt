use Rattle.std.proofs.Common.{[], sym, rules}
use Rattle.std.proofs.lemmas.Option.{slice_get-get_or}
use Rattle.schedule_states.proofs.reached.Reached.numbers.Goals as goal

pub returns-clause-there : goal.returns-clause-there
returns-clause-there g c =
    let there = c.self.invariant.each c.args.number _ (slice_get-get_or c.self.inside.states c.args.number (record { harts = []; memory = 0; standing = 0 }) (search rules)) in
    rw (sym c.self.view_is, c.as_slice.ensures) there
