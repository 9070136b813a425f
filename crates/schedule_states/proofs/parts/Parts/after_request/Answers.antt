use Rattle.schedule_states.proofs.Going.{turn_of}
use Rattle.schedule_states.proofs.Growing.{grown_then, moved_then}
use Rattle.schedule_states.specs.Happening.{IsAtFitRequest}
use Rattle.schedule_states.specs.Successors.{HaveMoved, IsSettled, IsSuccessor}
use Rattle.schedule_states.specs.declared.successor.Successor.TheVariants as answer
use Rattle.schedule_states.proofs.parts.Parts.after_request.Goals as goal

pub returns-in-Some-clause-turn : goal.returns-in-Some-clause-turn
returns-in-Some-clause-turn c =
    let successor : IsSuccessor c.args.self.now c.after_one.new.self c.args.state.now c.args.hart (answer.State c.in-State.next c.in-State.mark) =
    rw c.in-State.is at c.in_ok-next.ensures.successor in
    let at : IsAtFitRequest c.args.self.now c.args.state.now c.args.hart = rw c.in-State.is at c.in_ok-next.ensures.asks in
    let settled : IsSettled c.after_one.new.self c.settled.new.self c.in-State.next c.args.hart c.in-Some.settled = rw c.in-Some.is at c.in_ok-settled-in-State.ensures.settled in
    turn_of c.args.self.now c.after_one.new.self c.settled.new.self c.args.state.now c.in-State.next c.in-Some.settled c.args.hart c.in-State.mark c.after_one.ensures.grown.claims
    successor at settled

pub returns-in-Some-clause-harts : goal.returns-in-Some-clause-harts
returns-in-Some-clause-harts c =
    let first : HaveMoved c.args.hart c.args.state.now.harts.items c.in-State.next.harts.items = rw c.in-State.is at c.in_ok-next.ensures.harts in
    let on : HaveMoved c.args.hart c.in-State.next.harts.items c.in-Some.settled.harts.items = rw c.in-Some.is at c.in_ok-settled-in-State.ensures.harts in
    moved_then c.args.hart c.args.state.now.harts.items c.in-State.next.harts.items c.in-Some.settled.harts.items first on

pub returns-in-Some-clause-grown : goal.returns-in-Some-clause-grown
returns-in-Some-clause-grown c = grown_then c.args.self.now c.after_one.new.self c.settled.new.self c.after_one.ensures.grown c.settled.ensures.grown

pub returns-in-None-clause-grown : goal.returns-in-None-clause-grown
returns-in-None-clause-grown c = grown_then c.args.self.now c.after_one.new.self c.settled.new.self c.after_one.ensures.grown c.settled.ensures.grown

pub returns-in_err-settled-in-State-clause-grown : goal.returns-in_err-settled-in-State-clause-grown
returns-in_err-settled-in-State-clause-grown c = grown_then c.args.self.now c.after_one.new.self c.settled.new.self c.after_one.ensures.grown c.settled.ensures.grown
