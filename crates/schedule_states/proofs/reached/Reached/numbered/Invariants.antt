use Rattle.std.specs.Prelude.{◌≡◌, length}
use Rattle.schedule_states.specs.Covering.{IsMet}
use Rattle.schedule_states.specs.Onward.{AreListedTurns, AreTurnsTo}
use Rattle.schedule_states.specs.Reaching.{HaveGrown, WereBefore}
use Rattle.schedule_states.specs.declared.program_state.ProgramState.{ProgramState}
use Rattle.schedule_states.proofs.reached.Reached.numbered.Given as goal

abbrev pub invariant-loop-listed : goal.invariant-loop-listed
invariant-loop-listed g l = record {
  grown : HaveGrown l.initial.self l.self;
  before : WereBefore l.initial.self.parts l.self.parts;
  states : l.self.states ≡ l.initial.self.states;
  turns : (s : ProgramState) (t : _) → IsMet l.initial.self l.number s t →
      AreTurnsTo (g.J.StateJudge.stands l.judge) (g.J.StateJudge.allows l.judge) l.initial.self s t l.initial.self.harts l.looked.turns →
      AreListedTurns (g.J.StateJudge.stands l.judge) (g.J.StateJudge.allows l.judge) l.initial.self s t l.looked.listed.items →
      AreTurnsTo (g.J.StateJudge.stands l.judge) (g.J.StateJudge.allows l.judge) l.self s t l.initial.self.harts l.turns;
  long : length l.turns ≡ 8;
}
