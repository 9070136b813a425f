use Rattle.std.proofs.Common.{◌≡◌, [], slice_index_or, sym}
use Rattle.std.proofs.lemmas.Option.{get_or_from_slice_get}
use Rattle.schedule_states.proofs.Putting.{lists_grow}
use Rattle.schedule_states.proofs.parts.Parts.memory_after.Goals as goal

pub invariant_of-self : goal.invariant_of-self
invariant_of-self c = (
  lists_grow c.self.inside.lines.states c.serve.new.self.states c.self.inside.lists c.serve.ensures.kept.grows c.self.invariant.0,
  rw c.serve.ensures.kept.start c.self.invariant.1,
)

pub invariant_of-self-2 : goal.invariant_of-self-2
invariant_of-self-2 c = (
  lists_grow c.self.inside.lines.states c.serve.new.self.states c.self.inside.lists c.serve.ensures.kept.grows c.self.invariant.0,
  rw c.serve.ensures.kept.start c.self.invariant.1,
)

pub returns-clause-reply : goal.returns-clause-reply
returns-clause-reply c =
    let held : slice_index_or c.self.inside.lists c.args.memory [] ≡ c.list-held.result.now = get_or_from_slice_get c.self.inside.lists c.args.memory c.list-held.result.now [] c.list-held.ensures in
    rw (sym c.self.view_is, held) (rw c.memory.ensures at c.reply_to-reply.ensures)

pub returns-clause-lines : goal.returns-clause-lines
returns-clause-lines c =
    let held : slice_index_or c.self.inside.lists c.args.memory [] ≡ c.list-held.result.now = get_or_from_slice_get c.self.inside.lists c.args.memory c.list-held.result.now [] c.list-held.ensures in
    rw (sym c.self.view_is, held) (record { below = c.in_ok-lines.ensures.below; served = c.in_ok-lines.ensures.served })
