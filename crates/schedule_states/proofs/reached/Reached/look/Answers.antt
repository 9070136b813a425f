use Rattle.std.proofs.Common.{◌≡◌, Some, slice_get}
use Rattle.std.proofs.lemmas.Result.{IfOk-weaker}
use Rattle.bus.proofs.Places.{there_is}
use Rattle.schedule_states.proofs.Numbering.{lists_of_parts, met_kept, met_of_parts}
use Rattle.schedule_states.specs.Covering.{IsMet, PartsEndWell}
use Rattle.schedule_states.proofs.reached.Reached.look.Goals as goal

pub turns-requires-clause-parts : goal.turns-requires-clause-parts
turns-requires-clause-parts g c κs within = (
  c.in_ok-state.ensures.parts,
  lists_of_parts c.args.self.now c.args.number c.numbers-numbers.result c.in_ok-state.state c.numbers-numbers.ensures.found
      c.in_ok-state.ensures.memory c.in_ok-state.ensures.parts c.numbers-numbers.ensures.there,
)

pub turns-requires-clause-known : goal.turns-requires-clause-known
turns-requires-clause-known g c κs within t kept = c.requires.known c.in_ok-state.state t (met_of_parts c.args.self.now c.args.number c.numbers-numbers.result c.in_ok-state.state t
    c.numbers-numbers.ensures.found c.in_ok-state.ensures.memory kept c.in_ok-state.ensures.parts)

pub returns-clause-turns : goal.returns-clause-turns
returns-clause-turns g c =
    let well : PartsEndWell (g.J.StateJudge.ends c.args.judge.now) c.in_ok-state.state.harts.items = rw c.deref.ensures.value at c.in_default.ensures in
    let t : (t : _) × (slice_get c.args.self.now.standings c.numbers-numbers.result.standing ≡ Some t) =
    there_is c.args.self.now.standings c.numbers-numbers.result.standing c.numbers-numbers.ensures.there.standing in
    let met : IsMet c.args.self.now c.args.number c.in_ok-state.state t.0 = met_of_parts c.args.self.now c.args.number c.numbers-numbers.result c.in_ok-state.state t.0
    c.numbers-numbers.ensures.found c.in_ok-state.ensures.memory t.1 c.in_ok-state.ensures.parts in
    IfOk-weaker c.turns.result _ _ (λ looked are. IfOk-weaker looked _ _ (λ turns is. (
      record {
        state = c.in_ok-state.state;
        standing = t.0;
        met = met_kept c.args.self.now c.turns.new.self c.args.number c.in_ok-state.state t.0 c.turns.ensures.grown.0 met;
        well = well;
        turns_are = is.1 t.0 t.1;
      },
      is.0,
    )) are) c.turns.ensures.turns
