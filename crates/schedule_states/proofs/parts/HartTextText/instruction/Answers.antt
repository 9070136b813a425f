use Rattle.std.proofs.Common.{◌≡◌, [], slice_index_or, rules}
use Rattle.std.proofs.lemmas.Option.{get_or_from_slice_get}
use Rattle.schedule_states.proofs.Fetching.{nothing_over}
use Rattle.schedule_states.proofs.parts.HartTextText.instruction.Goals as goal

pub returns-then-self-eq0 : goal.returns-then-self-eq0
returns-then-self-eq0 c =
    let zero : c.args.self.now.number ≡ 0 = search rules in
    let none : slice_index_or c.args.self.now.parts.now.lists 0 [] ≡ [] =
    get_or_from_slice_get c.args.self.now.parts.now.lists 0 [] [] c.starting_instruction.ensures.first in
    rw (zero, none, nothing_over c.args.self.now.parts.now.table.states _) c.starting_instruction.ensures.instruction
