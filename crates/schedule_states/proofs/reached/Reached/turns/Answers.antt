use Rattle.std.proofs.Common.{◌≡◌, ◌<◌, ℕ, List, None, Some, length, slice_index_or, refl, sym, ◌∙◌, subst, arith, rules}
use Rattle.std.proofs.lemmas.List.{length-set}
use Rattle.schedule_states.proofs.Closing.{before_twice, grown_twice}
use Rattle.schedule_states.proofs.Looking.{within_kept}
use Rattle.schedule_states.proofs.Numbering.{lists_kept, parts_kept}
use Rattle.schedule_states.proofs.Onward.{all_known_set, some_as_kept, turns_to_kept, turns_to_more}
use Rattle.schedule_states.specs.Onward.{AreAllKnown, AreTurnsTo}
use Rattle.schedule_states.specs.Reaching.{HaveGrown}
use Rattle.schedule_states.specs.Turns.{MayClaim}
use Rattle.schedule_states.specs.declared.claims.ClaimedLine.{ClaimedLine}
use Rattle.schedule_states.proofs.reached.Reached.turns.Goals as goal

pub loop-hart-init : goal.loop-hart-init
loop-hart-init g c = record {
  grown = record {
    parts = record { table = record { start = refl; grows = λ n s found. found }; lists = λ n held found. found; claims = refl };
    hart_parts = λ n value found. found;
    standings = λ n value found. found;
    states = λ n value found. found;
    harts = refl;
  };
  before = λ s k lists stands. stands;
  lists = c.requires.parts.1;
  turns = λ t kept h few. absurd (omega (arith, few));
  all = λ h few. absurd (omega (arith, few));
  harts = search rules;
  states = refl;
  long = refl;
}

pub turn_or-requires-clause-there : goal.turn_or-requires-clause-there
turn_or-requires-clause-there g c κs within = (
  omega (arith, c.loop-hart-test.true, c.loop-hart.invariant.harts),
  within_kept c.args.self.now.standings c.loop-hart.self.standings c.args.from.numbers.now.standing c.loop-hart.invariant.grown.standings c.requires.standing,
)

pub turn_or-requires-clause-parts : goal.turn_or-requires-clause-parts
turn_or-requires-clause-parts g c κs within = (
  parts_kept c.args.self.now c.loop-hart.self c.args.from.numbers.now c.args.from.state.now.harts.items c.loop-hart.invariant.grown c.requires.parts.0,
  c.loop-hart.invariant.lists,
)

pub turn_or-requires-clause-claims : goal.turn_or-requires-clause-claims
turn_or-requires-clause-claims g c κs within = subst (λ (claims : List ClaimedLine). MayClaim (g.J.StateJudge.allows c.args.judge.now) claims) (sym c.loop-hart.invariant.grown.parts.claims) c.requires.claims

pub turn_or-requires-clause-known : goal.turn_or-requires-clause-known
turn_or-requires-clause-known g c κs within =
    let few : c.loop-hart.hart < c.args.self.now.harts = omega (arith, c.loop-hart-test.true, c.loop-hart.invariant.harts, c.loop-hart.invariant.grown.harts) in
    some_as_kept (g.J.StateJudge.stands c.args.judge.now) (g.J.StateJudge.allows c.args.judge.now) c.args.self.now c.loop-hart.self c.args.from.state.now c.args.from.numbers.now.standing
    c.loop-hart.hart (slice_index_or c.args.known.now c.loop-hart.hart None) c.requires.standing c.requires.parts.1 c.loop-hart.invariant.grown c.loop-hart.invariant.before
    (λ t kept. c.requires.known t kept c.loop-hart.hart few)

pub returns-in_err-turn-clause-grown : goal.returns-in_err-turn-clause-grown
returns-in_err-turn-clause-grown g c = (
  grown_twice c.args.self.now c.loop-hart.self c.turn_or.new.self c.loop-hart.invariant.grown c.turn_or.ensures.grown.0,
  before_twice c.args.self.now.parts c.loop-hart.self.parts c.turn_or.new.self.parts c.loop-hart.invariant.grown.parts c.loop-hart.invariant.before c.turn_or.ensures.grown.1,
  c.turn_or.ensures.grown.2 ∙ c.loop-hart.invariant.states,
)

pub returns-in-Err-clause-grown : goal.returns-in-Err-clause-grown
returns-in-Err-clause-grown g c = (
  grown_twice c.args.self.now c.loop-hart.self c.turn_or.new.self c.loop-hart.invariant.grown c.turn_or.ensures.grown.0,
  before_twice c.args.self.now.parts c.loop-hart.self.parts c.turn_or.new.self.parts c.loop-hart.invariant.grown.parts c.loop-hart.invariant.before c.turn_or.ensures.grown.1,
  c.turn_or.ensures.grown.2 ∙ c.loop-hart.invariant.states,
)

pub loop-hart-preserved : goal.loop-hart-preserved
loop-hart-preserved g c =
    let grown : HaveGrown c.args.self.now c.turn_or.new.self = grown_twice c.args.self.now c.loop-hart.self c.turn_or.new.self c.loop-hart.invariant.grown c.turn_or.ensures.grown.0 in
    let few : c.loop-hart.hart < length c.loop-hart.turns = omega (arith, c.loop-hart.invariant.long, c.self.invariant.few) in record {
      grown = grown;
      before = before_twice c.args.self.now.parts c.loop-hart.self.parts c.turn_or.new.self.parts c.loop-hart.invariant.grown.parts c.loop-hart.invariant.before c.turn_or.ensures.grown.1;
      lists = lists_kept c.loop-hart.self.parts c.turn_or.new.self.parts c.args.from.state.now c.turn_or.ensures.grown.0.parts c.loop-hart.invariant.lists;
      turns = λ t kept. turns_to_more (g.J.StateJudge.stands c.args.judge.now) (g.J.StateJudge.allows c.args.judge.now) c.turn_or.new.self c.args.from.state.now t c.loop-hart.hart
          (Some c.in-Ok.turn) c.loop-hart.turns few
          ((rw c.in-Ok.is at c.in_ok-turn.ensures.turn) t (c.loop-hart.invariant.grown.standings c.args.from.numbers.now.standing t kept))
          (turns_to_kept (g.J.StateJudge.stands c.args.judge.now) (g.J.StateJudge.allows c.args.judge.now) c.loop-hart.self c.turn_or.new.self c.args.from.state.now t c.loop-hart.hart c.loop-hart.turns
          c.loop-hart.invariant.lists c.turn_or.ensures.grown.0 c.turn_or.ensures.grown.1 (c.loop-hart.invariant.turns t kept));
      all = all_known_set c.loop-hart.hart c.in-Ok.turn c.loop-hart.turns few c.loop-hart.invariant.all;
      harts = c.loop-hart.invariant.harts ∙ sym c.turn_or.ensures.grown.0.harts;
      states = c.turn_or.ensures.grown.2 ∙ c.loop-hart.invariant.states;
      long = length-set c.loop-hart.turns c.loop-hart.hart _ ∙ c.loop-hart.invariant.long;
    }

pub returns-clause-turns : goal.returns-clause-turns
returns-clause-turns g c =
    let end : c.loop-hart.hart ≡ c.loop-hart.self.harts = search rules in (
      subst (λ (n : ℕ). AreAllKnown n c.loop-hart.turns) end c.loop-hart.invariant.all,
      λ t kept. subst (λ (n : ℕ). AreTurnsTo (g.J.StateJudge.stands c.args.judge.now) (g.J.StateJudge.allows c.args.judge.now) c.loop-hart.self c.args.from.state.now t n c.loop-hart.turns) end
          (c.loop-hart.invariant.turns t kept),
    )

pub returns-clause-grown : goal.returns-clause-grown
returns-clause-grown g c = (c.loop-hart.invariant.grown, c.loop-hart.invariant.before, c.loop-hart.invariant.states)
