use Rattle.std.proofs.Common.{◌≡◌, ◌<◌, Some, length, slice_get, sym, ap, ◌∙◌, subst, arith, rules}
use Rattle.std.proofs.lemmas.List.{length-set}
use Rattle.std.proofs.lemmas.Option.{slice_get-get_or}
use Rattle.schedule_states.proofs.Closing.{before_twice, grown_twice}
use Rattle.schedule_states.proofs.Numbering.{lists_kept, lists_of_met, met_kept}
use Rattle.schedule_states.proofs.Onward.{turns_to_kept, turns_to_set}
use Rattle.schedule_states.proofs.Putting.{below_grows}
use Rattle.schedule_states.specs.Onward.{IsTurnTo, with_memory}
use Rattle.schedule_states.specs.Reaching.{HaveGrown, WereBefore}
use Rattle.schedule_states.specs.Successors.{HasLists}
use Rattle.schedule_states.specs.declared.program_state.StateNumbers.{StateNumbers}
use Rattle.schedule_states.specs.declared.reached.Turn.TheVariants as to
use Rattle.schedule_states.proofs.reached.Reached.numbered.Goals as goal

pub listed_numbers-requires-clause-below : goal.listed_numbers-requires-clause-below
listed_numbers-requires-clause-below g c κs within =
    let got : slice_get c.args.looked.now.listed.items c.loop-listed.listed-index ≡ Some c.listed-item.result =
    slice_get-get_or c.args.looked.now.listed.items c.loop-listed.listed-index c.listed-item.result
    (omega (arith, c.loop-listed-test.true, ap length c.deref-listed-items.ensures.value)) ∙ ap (λ (one : _). Some one) (search rules) in
    below_grows c.args.self.now.parts.table.states c.loop-listed.self.parts.table.states c.listed-item.result.list.items c.loop-listed.invariant.grown.parts.table.grows
    (c.requires.listed c.loop-listed.listed-index c.listed-item.result got).below

pub returns-in_err-numbers-clause-grown : goal.returns-in_err-numbers-clause-grown
returns-in_err-numbers-clause-grown g c = (
  grown_twice c.args.self.now c.loop-listed.self c.listed_numbers.new.self c.loop-listed.invariant.grown c.listed_numbers.ensures.grown.0,
  before_twice c.args.self.now.parts c.loop-listed.self.parts c.listed_numbers.new.self.parts c.loop-listed.invariant.grown.parts c.loop-listed.invariant.before c.listed_numbers.ensures.grown.1,
  c.listed_numbers.ensures.grown.2 ∙ c.loop-listed.invariant.states,
)

pub loop-listed-preserved : goal.loop-listed-preserved
loop-listed-preserved g c =
    let got : slice_get c.args.looked.now.listed.items c.loop-listed.listed-index ≡ Some c.listed-item.result =
    slice_get-get_or c.args.looked.now.listed.items c.loop-listed.listed-index c.listed-item.result
    (omega (arith, c.loop-listed-test.true, ap length c.deref-listed-items.ensures.value)) ∙ ap (λ (one : _). Some one) (search rules) in
    let grown : HaveGrown c.args.self.now c.listed_numbers.new.self =
    grown_twice c.args.self.now c.loop-listed.self c.listed_numbers.new.self c.loop-listed.invariant.grown c.listed_numbers.ensures.grown.0 in
    let before : WereBefore c.args.self.now.parts c.listed_numbers.new.self.parts = before_twice c.args.self.now.parts c.loop-listed.self.parts c.listed_numbers.new.self.parts
    c.loop-listed.invariant.grown.parts c.loop-listed.invariant.before c.listed_numbers.ensures.grown.1 in
    let few : c.listed-item.result.hart < length c.loop-listed.turns = omega (arith, c.listed-item.result.few, c.loop-listed.invariant.long) in record {
      grown = grown;
      before = before;
      states = c.listed_numbers.ensures.grown.2 ∙ c.loop-listed.invariant.states;
      turns = λ s t met base listed.
          let was : HasLists c.args.self.now.parts s = lists_of_met c.args.self.now c.args.number s t met (c.are_numbered.ensures.each c.args.number met.numbers met.found) in
          let on : IsTurnTo (g.J.StateJudge.stands c.args.judge.now) (g.J.StateJudge.allows c.args.judge.now) c.listed_numbers.new.self s t c.listed-item.result.hart
          (Some (with_memory c.listed-item.result.numbers c.in_ok-numbers.numbers.memory)) =
          (listed c.loop-listed.listed-index c.listed-item.result got).leads c.listed_numbers.new.self c.in_ok-numbers.numbers.memory grown before c.in_ok-numbers.ensures.numbers.1 in
          turns_to_set (g.J.StateJudge.stands c.args.judge.now) (g.J.StateJudge.allows c.args.judge.now) c.listed_numbers.new.self s t c.args.self.now.harts c.listed-item.result.hart
          (to.Parts c.in_ok-numbers.numbers) c.loop-listed.turns few
          (subst (λ (x : StateNumbers). IsTurnTo (g.J.StateJudge.stands c.args.judge.now) (g.J.StateJudge.allows c.args.judge.now) c.listed_numbers.new.self s t
          c.listed-item.result.hart (Some x)) (sym c.in_ok-numbers.ensures.numbers.0) on)
          (turns_to_kept (g.J.StateJudge.stands c.args.judge.now) (g.J.StateJudge.allows c.args.judge.now) c.loop-listed.self c.listed_numbers.new.self s t c.args.self.now.harts c.loop-listed.turns
          (lists_kept c.args.self.now.parts c.loop-listed.self.parts s c.loop-listed.invariant.grown.parts was) c.listed_numbers.ensures.grown.0 c.listed_numbers.ensures.grown.1
          (c.loop-listed.invariant.turns s t met base listed));
      long = length-set c.loop-listed.turns c.listed-item.result.hart _ ∙ c.loop-listed.invariant.long;
    }

pub returns-clause-turns : goal.returns-clause-turns
returns-clause-turns g c = record {
  state = c.requires.turns.state;
  standing = c.requires.turns.standing;
  met = met_kept c.args.self.now c.loop-listed.self c.args.number c.requires.turns.state c.requires.turns.standing c.loop-listed.invariant.grown c.requires.turns.met;
  well = c.requires.turns.well;
  turns_are = λ h few. c.loop-listed.invariant.turns c.requires.turns.state c.requires.turns.standing c.requires.turns.met c.requires.turns.turns_are c.requires.listed h
      (omega (arith, few, c.loop-listed.invariant.grown.harts));
}
