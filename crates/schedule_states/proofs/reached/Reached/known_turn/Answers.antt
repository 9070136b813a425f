use Rattle.std.proofs.Common.{◌≡◌, Some, slice_get, subst}
use Rattle.bus.proofs.Places.{there_is}
use Rattle.schedule_states.proofs.Listing.{known_found, turn_there}
use Rattle.schedule_states.proofs.Onward.{both_ok, some_then}
use Rattle.schedule_states.specs.Covering.{ReachedView}
use Rattle.schedule_states.specs.States.{AreLists}
use Rattle.schedule_states.proofs.reached.Reached.known_turn.Goals as goal

pub returns-in-Ok-Ok : goal.returns-in-Ok-Ok
returns-in-Ok-Ok g c =
    let lists : AreLists c.args.self.now.parts.table.states c.args.self.now.parts.lists =
    subst (λ (r : ReachedView _). AreLists r.parts.table.states r.parts.lists) c.self.view_is c.lists_are_there.ensures in
    some_then _ _ c.found.result
    (λ turn of t kept. known_found (g.J.StateJudge.stands c.args.judge.now) (g.J.StateJudge.allows c.args.judge.now) c.args.self.now c.turn.new.self c.args.state.now t c.args.hart c.in-Ok-Ok.next turn
    c.are_numbered.ensures lists c.requires.lists (rw c.in_ok-lent.ensures at c.turn.ensures.grown) (rw c.in_ok-lent.ensures at c.turn.ensures.before) (rw c.parts.ensures at of)
    ((both_ok _ c.turn.result c.in-Ok-Ok.field-0 c.in-Ok-Ok.next c.in-Ok-Ok.is c.in-Ok-Ok.field-0-is c.turn.ensures.turn) t (rw c.in_ok-lent.ensures kept)))
    c.found.ensures

pub found-requires-clause-there : goal.found-requires-clause-there
found-requires-clause-there g c κs within =
    let t : (t : _) × (slice_get c.args.self.now.standings c.args.numbers.now.standing ≡ Some t) =
    there_is c.args.self.now.standings c.args.numbers.now.standing c.requires.standing in
    rw c.parts.ensures (turn_there (g.J.StateJudge.stands c.args.judge.now) (g.J.StateJudge.allows c.args.judge.now) c.turn.new.self c.args.state.now t.0 c.args.hart c.in-Ok-Ok.next
    ((both_ok _ c.turn.result c.in-Ok-Ok.field-0 c.in-Ok-Ok.next c.in-Ok-Ok.is c.in-Ok-Ok.field-0-is c.turn.ensures.turn) t.0 (rw c.in_ok-lent.ensures t.1)))
