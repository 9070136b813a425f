use Rattle.std.proofs.Common.{◌≡◌, ◌<◌, ◌∷◌, ◌++◌, [], Some, true, ap, length, slice_get, sym, ◌∙◌, refl, arith}
use Rattle.std.specs.Option.{is_some}
use Rattle.std.specs.Result.{is_ok}
use Rattle.std.proofs.lemmas.List.{length-set}
use Rattle.bus.proofs.Places.{there_is}
use Rattle.schedule_states.proofs.Listing.{found_known, listed_pushed}
use Rattle.schedule_states.proofs.Numbering.{lists_of_parts, met_of_parts}
use Rattle.schedule_states.proofs.Onward.{turns_to_set}
use Rattle.schedule_states.specs.Covering.{PartsEndWell}
use Rattle.schedule_states.proofs.reached.Reached.known_turns.Goals as goal
use Rattle.schedule_states.proofs.reached.Reached.known_turns.Goals.{in-Some-Known, in-Some-Listed+in_ok-ok-in-Some-Listed, in-None}

pub known_turn-requires-clause-lists : goal.known_turn-requires-clause-lists
known_turn-requires-clause-lists g c κs within = lists_of_parts c.args.self.now c.args.number c.numbers-numbers.result c.in-Ok.state c.numbers-numbers.ensures.found
    c.in-Ok.ensures.memory c.in-Ok.ensures.parts c.numbers-numbers.ensures.there

pub loop-hart-preserved : goal.loop-hart-preserved
loop-hart-preserved g c =
    let few : c.loop-hart.hart < length c.loop-hart.turns = omega (arith, c.loop-hart.invariant.long, c.loop-hart-test.true, c.are_numbered.ensures.few) in
    elim c.match-known_turn.branch [
      | in-Some-Known w ↦ record {
        turns = λ t kept. rw w.turns-is (turns_to_set (g.J.StateJudge.stands c.args.judge.now) (g.J.StateJudge.allows c.args.judge.now) c.args.self.now c.in-Ok.state t c.args.self.now.harts c.loop-hart.hart
            w.in-Some-Known.turn c.loop-hart.turns few
            (found_known (g.J.StateJudge.stands c.args.judge.now) (g.J.StateJudge.allows c.args.judge.now) c.args.self.now c.in-Ok.state t c.loop-hart.hart
            w.in-Some-Known.field-0 w.in-Some-Known.turn w.in-Some-Known.field-0-is (w.in-Some-Known.ensures t kept))
            (c.loop-hart.invariant.turns t kept));
        listed = λ t kept. rw w.listed-is (c.loop-hart.invariant.listed t kept);
        long = rw w.turns-is (length-set c.loop-hart.turns c.loop-hart.hart _ ∙ c.loop-hart.invariant.long);
      }
      | in-Some-Listed+in_ok-ok-in-Some-Listed w ↦ record {
        turns = λ t kept. rw w.turns-is (c.loop-hart.invariant.turns t kept);
        listed = λ t kept.
            let ok : is_ok w.push.result ≡ true = sym w.ok.ensures.variant ∙ ap is_some w.in_ok-ok-in-Some-Listed.was in
            let pushed : w.push.new.self.items ≡ c.loop-hart.listed.items ++ w.in-Some-Listed.turn ∷ [] = w.push.ensures.items ∙ rw ok refl in
            rw (w.listed-is, pushed) (listed_pushed (g.J.StateJudge.stands c.args.judge.now) (g.J.StateJudge.allows c.args.judge.now) c.args.self.now c.in-Ok.state t c.loop-hart.hart
            w.in-Some-Listed.field-0 w.in-Some-Listed.turn c.loop-hart.listed.items w.in-Some-Listed.field-0-is (w.in-Some-Listed.ensures t kept)
            (c.loop-hart.invariant.listed t kept));
        long = rw w.turns-is c.loop-hart.invariant.long;
      }
      | in-None w ↦ record {
        turns = λ t kept. rw w.turns-is (c.loop-hart.invariant.turns t kept);
        listed = λ t kept. rw w.listed-is (c.loop-hart.invariant.listed t kept);
        long = rw w.turns-is c.loop-hart.invariant.long;
      }
    ]

pub returns : goal.returns
returns g c =
    let well : PartsEndWell (g.J.StateJudge.ends c.args.judge.now) c.in-Ok.state.harts.items = rw c.deref.ensures.value at c.in_default-ended_badly.ensures in
    let t : (t : _) × (slice_get c.args.self.now.standings c.numbers-numbers.result.standing ≡ Some t) =
    there_is c.args.self.now.standings c.numbers-numbers.result.standing c.numbers-numbers.ensures.there.standing in record {
      turns = record {
        state = c.in-Ok.state;
        standing = t.0;
        met = met_of_parts c.args.self.now c.args.number c.numbers-numbers.result c.in-Ok.state t.0 c.numbers-numbers.ensures.found c.in-Ok.ensures.memory t.1 c.in-Ok.ensures.parts;
        well = well;
        turns_are = c.loop-hart.invariant.turns t.0 t.1;
      };
      listed = c.loop-hart.invariant.listed t.0 t.1;
    }
