use Rattle.std.proofs.Common.{◌≡◌, [], Some, None, rules}
use Rattle.schedule_states.proofs.Fencing.{fence_certain, fence_none}
use Rattle.schedule_states.specs.Memories.{state_in}
use Rattle.schedule_states.proofs.line_table.LineTable.after_fence.Goals as goal

pub returns-in_default-clause-none : goal.returns-in_default-clause-none
returns-in_default-clause-none c =
    let none : state_in c.args.self.now.states c.args.held.now c.args.line ≡ None = search rules in
    rw none (fence_none c.args.self.now.start c.args.hart c.args.line c.requires.hart)

pub returns-then-is_certain-clause-none : goal.returns-then-is_certain-clause-none
returns-then-is_certain-clause-none c =
    let found : state_in c.args.self.now.states c.args.held.now c.args.line ≡ Some c.in-Some.state.now = search rules in
    let none : c.in-Some.state.now.others.items ≡ [] = c.is_certain.ensures.0 c.if-is_certain.true in
    rw found (fence_certain c.args.self.now.start c.args.hart c.args.line c.in-Some.state.now c.requires.hart none)
