use Rattle.std.proofs.Common.{◌≡◌, ◌<◌, ℕ, None, Some, length, slice_index_or, refl, sym, ◌∙◌, subst, arith, rules}
use Rattle.std.proofs.lemmas.List.{get_or-replicate, length-set}
use Rattle.std.proofs.lemmas.Option.{slice_get_within}
use Rattle.schedule_states.proofs.Closing.{closed_at, grown_twice}
use Rattle.schedule_states.proofs.Happening.{led_as_met}
use Rattle.schedule_states.proofs.Numbering.{lists_kept, lists_of_met, met_kept}
use Rattle.schedule_states.proofs.Onward.{known_turn_kept, led_taken, turn_has_parts, turn_taken, were_before_same}
use Rattle.schedule_states.proofs.Turning.{closed_by_turns, no_turns, turns_at, turns_kept, turns_more}
use Rattle.schedule_states.specs.Covering.{IsMet}
use Rattle.schedule_states.specs.Ending.{AreTurns}
use Rattle.schedule_states.specs.Onward.{AreTurnsFrom, HasParts, IsKnownTurn}
use Rattle.schedule_states.specs.Reaching.{HaveGrown, WereBefore}
use Rattle.schedule_states.specs.Successors.{HasLists}
use Rattle.schedule_states.proofs.reached.Reached.take_all.Goals as goal

pub loop-hart-init : goal.loop-hart-init
loop-hart-init g c = record {
  grown = record {
    parts = record { table = record { start = refl; grows = λ n s found. found }; lists = λ n held found. found; claims = refl };
    hart_parts = λ n value found. found;
    standings = λ n value found. found;
    states = λ n value found. found;
    harts = refl;
  };
  parts = refl;
  taken = λ from. no_turns (g.J.StateJudge.stands c.args.judge.now) (g.J.StateJudge.allows c.args.judge.now) c.args.self.now from.state from.standing c.args.number _ from.met
      (λ h few. get_or-replicate 8 h c.args.number 0 few);
  harts = search rules;
  led = λ are. are;
  long = refl;
}

pub unwrap-turn-requires : goal.unwrap-turn-requires
unwrap-turn-requires g c =
    let few : c.loop-hart.hart < c.args.self.now.harts = omega (arith, c.loop-hart-test.true, c.loop-hart.invariant.harts, c.loop-hart.invariant.grown.harts) in
    c.requires.all c.loop-hart.hart few

pub take-requires : goal.take-requires
take-requires g c =
    let from = c.requires.turns in
    let before : WereBefore c.args.self.now.parts c.loop-hart.self.parts = were_before_same c.args.self.now.parts c.loop-hart.self.parts c.loop-hart.invariant.parts in
    let lists : HasLists c.args.self.now.parts from.state = lists_of_met c.args.self.now c.args.number from.state from.standing from.met
    (c.are_numbered.ensures.each c.args.number from.met.numbers from.met.found) in
    let few : c.loop-hart.hart < c.args.self.now.harts = omega (arith, c.loop-hart-test.true, c.loop-hart.invariant.harts, c.loop-hart.invariant.grown.harts) in
    let found : slice_index_or c.args.turns.now c.loop-hart.hart None ≡ Some c.unwrap-turn.result = c.unwrap-turn.ensures in
    let turn : IsKnownTurn (g.J.StateJudge.stands c.args.judge.now) (g.J.StateJudge.allows c.args.judge.now) c.args.self.now from.state from.standing c.loop-hart.hart c.unwrap-turn.result =
    rw found at (from.turns_are c.loop-hart.hart few) in
    let has : HasParts c.loop-hart.self c.unwrap-turn.result = turn_has_parts (g.J.StateJudge.stands c.args.judge.now) (g.J.StateJudge.allows c.args.judge.now) c.loop-hart.self from.state from.standing c.loop-hart.hart c.unwrap-turn.result
    (known_turn_kept (g.J.StateJudge.stands c.args.judge.now) (g.J.StateJudge.allows c.args.judge.now) c.args.self.now c.loop-hart.self from.state from.standing c.loop-hart.hart c.unwrap-turn.result
    lists c.loop-hart.invariant.grown before turn) in
    search rules

pub loop-hart-preserved : goal.loop-hart-preserved
loop-hart-preserved g c =
    let grown : HaveGrown c.args.self.now c.take.new.self = grown_twice c.args.self.now c.loop-hart.self c.take.new.self c.loop-hart.invariant.grown c.take.ensures.grown in
    let room : c.loop-hart.hart < length c.loop-hart.to = omega (arith, c.loop-hart.invariant.long, c.self.invariant.few) in
    let before : WereBefore c.args.self.now.parts c.loop-hart.self.parts = were_before_same c.args.self.now.parts c.loop-hart.self.parts c.loop-hart.invariant.parts in
    let after : WereBefore c.loop-hart.self.parts c.take.new.self.parts = were_before_same c.loop-hart.self.parts c.take.new.self.parts c.take.ensures.parts in
    let few : c.loop-hart.hart < c.args.self.now.harts = omega (arith, c.loop-hart-test.true, c.loop-hart.invariant.harts, c.loop-hart.invariant.grown.harts) in
    let found : slice_index_or c.args.turns.now c.loop-hart.hart None ≡ Some c.unwrap-turn.result = c.unwrap-turn.ensures in
    let lists : (from : AreTurnsFrom (g.J.StateJudge.stands c.args.judge.now) (g.J.StateJudge.allows c.args.judge.now) (g.J.StateJudge.ends c.args.judge.now) c.args.self.now c.args.number c.args.turns.now) →
    HasLists c.args.self.now.parts from.state = λ from. lists_of_met c.args.self.now c.args.number from.state from.standing from.met
    (c.are_numbered.ensures.each c.args.number from.met.numbers from.met.found) in
    let turn : (from : AreTurnsFrom (g.J.StateJudge.stands c.args.judge.now) (g.J.StateJudge.allows c.args.judge.now) (g.J.StateJudge.ends c.args.judge.now) c.args.self.now c.args.number c.args.turns.now) →
    IsKnownTurn (g.J.StateJudge.stands c.args.judge.now) (g.J.StateJudge.allows c.args.judge.now) c.loop-hart.self from.state from.standing c.loop-hart.hart c.unwrap-turn.result = λ from.
    known_turn_kept (g.J.StateJudge.stands c.args.judge.now) (g.J.StateJudge.allows c.args.judge.now) c.args.self.now c.loop-hart.self from.state from.standing c.loop-hart.hart c.unwrap-turn.result
    (lists from) c.loop-hart.invariant.grown before (rw found at (from.turns_are c.loop-hart.hart few)) in
    rw c.note.ensures (record {
      grown = grown;
      parts = c.take.ensures.parts ∙ c.loop-hart.invariant.parts;
      taken = λ from.
          let here : HasLists c.loop-hart.self.parts from.state =
          lists_kept c.args.self.now.parts c.loop-hart.self.parts from.state c.loop-hart.invariant.grown.parts (lists from) in
          let met : IsMet c.take.new.self c.args.number from.state from.standing = met_kept c.args.self.now c.take.new.self c.args.number from.state from.standing grown from.met in
          rw c.unwrap_or.ensures (turns_more (g.J.StateJudge.stands c.args.judge.now) (g.J.StateJudge.allows c.args.judge.now) c.take.new.self from.state from.standing c.loop-hart.hart c.args.number
          c.in_ok-next.next c.loop-hart.to room met
          (turn_taken (g.J.StateJudge.stands c.args.judge.now) (g.J.StateJudge.allows c.args.judge.now) c.take.new.self from.state from.standing c.loop-hart.hart c.unwrap-turn.result c.in_ok-next.next
          c.in_ok-next.ensures.number
          (known_turn_kept (g.J.StateJudge.stands c.args.judge.now) (g.J.StateJudge.allows c.args.judge.now) c.loop-hart.self c.take.new.self from.state from.standing c.loop-hart.hart c.unwrap-turn.result
          here c.take.ensures.grown after (turn from)))
          (turns_kept (g.J.StateJudge.stands c.args.judge.now) (g.J.StateJudge.allows c.args.judge.now) c.loop-hart.self c.take.new.self from.state from.standing c.loop-hart.hart c.loop-hart.to
          here c.take.ensures.grown after (c.loop-hart.invariant.taken from)));
      harts = c.loop-hart.invariant.harts ∙ sym c.take.ensures.grown.harts;
      led = λ are.
          let from = c.requires.turns in
          let now = c.loop-hart.invariant.led are in
          let met : IsMet c.loop-hart.self c.args.number from.state from.standing =
          met_kept c.args.self.now c.loop-hart.self c.args.number from.state from.standing c.loop-hart.invariant.grown from.met in
          led_taken (g.J.StateJudge.stands c.args.judge.now) (g.J.StateJudge.allows c.args.judge.now) c.loop-hart.self c.take.new.self from.state from.standing c.loop-hart.hart c.unwrap-turn.result
          c.take.ensures.grown c.take.ensures.more
          (led_as_met (g.J.StateJudge.stands c.args.judge.now) (g.J.StateJudge.allows c.args.judge.now) c.loop-hart.self c.args.number from.state from.standing met
          (now c.args.number (slice_get_within c.loop-hart.self.states c.args.number met.numbers met.found)))
          (turn from) now;
      long = length-set c.loop-hart.to c.loop-hart.hart _ ∙ c.loop-hart.invariant.long;
    })

pub returns-clause-closed : goal.returns-clause-closed
returns-clause-closed g c =
    let from = c.requires.turns in
    let end : c.loop-hart.hart ≡ c.loop-hart.self.harts = search rules in
    let turns : AreTurns (g.J.StateJudge.stands c.args.judge.now) (g.J.StateJudge.allows c.args.judge.now) c.loop-hart.self from.state from.standing c.loop-hart.self.harts c.loop-hart.to =
    subst (λ (n : ℕ). AreTurns (g.J.StateJudge.stands c.args.judge.now) (g.J.StateJudge.allows c.args.judge.now) c.loop-hart.self from.state from.standing n c.loop-hart.to) end
    (c.loop-hart.invariant.taken from) in
    closed_at (g.J.StateJudge.stands c.args.judge.now) (g.J.StateJudge.allows c.args.judge.now) (g.J.StateJudge.ends c.args.judge.now) c.loop-hart.self c.args.number from.state from.standing
    (met_kept c.args.self.now c.loop-hart.self c.args.number from.state from.standing c.loop-hart.invariant.grown from.met)
    (closed_by_turns (g.J.StateJudge.stands c.args.judge.now) (g.J.StateJudge.allows c.args.judge.now) c.loop-hart.self from.state from.standing c.loop-hart.self.harts c.loop-hart.to turns) from.well

pub returns-clause-turns : goal.returns-clause-turns
returns-clause-turns g c =
    let from = c.requires.turns in
    let end : c.loop-hart.hart ≡ c.loop-hart.self.harts = search rules in
    turns_at (g.J.StateJudge.stands c.args.judge.now) (g.J.StateJudge.allows c.args.judge.now) c.loop-hart.self c.args.number from.state from.standing c.loop-hart.to
    (met_kept c.args.self.now c.loop-hart.self c.args.number from.state from.standing c.loop-hart.invariant.grown from.met)
    (subst (λ (n : ℕ). AreTurns (g.J.StateJudge.stands c.args.judge.now) (g.J.StateJudge.allows c.args.judge.now) c.loop-hart.self from.state from.standing n c.loop-hart.to) end
    (c.loop-hart.invariant.taken from))

pub returns-clause-led : goal.returns-clause-led
returns-clause-led g c are = c.loop-hart.invariant.led are
