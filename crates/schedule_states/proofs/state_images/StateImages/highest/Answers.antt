use Rattle.std.proofs.Common.{◌≡◌, ◌+◌, ◌≤◌, Some, length, rules, arith}
use Rattle.schedule_states.specs.Memories.{state_in}
use Rattle.schedule_states.proofs.state_images.StateImages.highest.Goals as goal

pub overflow_cast-result : goal.overflow_cast-result
overflow_cast-result c =
    let found : state_in c.self.inside.memory.states c.self.inside.memory.held (16777216 + c.args.line) ≡ Some c.in-Some.state.now = search rules in
    let few : length c.in-Some.state.now.others.items ≤ 65535 = (c.self.invariant.0 (16777216 + c.args.line) c.in-Some.state.now found).few in
    omega (arith, few, c.len.ensures)
