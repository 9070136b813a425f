use Rattle.std.proofs.Common.{◌≡◌, ◌<◌, Some, length, rules}
use Rattle.std.proofs.lemmas.Option.{slice_get-get_or}
use Rattle.schedule_states.proofs.Held.{number_below}
use Rattle.schedule_states.specs.HeldLines.{AreBelow, number_of}
use Rattle.schedule_states.proofs.state_memory.StateMemory.state.Goals as goal

pub returns-in-Some-clause-some : goal.returns-in-Some-clause-some
returns-in-Some-clause-some c =
    let found : number_of c.args.self.now.held c.args.line ≡ Some c.in-Some.number = search rules in
    let below : AreBelow (length c.args.self.now.states) c.args.self.now.held = search rules in
    let there : c.in-Some.number < length c.args.self.now.states = number_below _ c.args.self.now.held c.args.line c.in-Some.number below found in
    let same : c.self.inside.states.now ≡ c.args.self.now.states = search rules in
    rw (found, c.whole.ensures.value, same) (slice_get-get_or c.args.self.now.states c.in-Some.number c.index-self-number.result there)
