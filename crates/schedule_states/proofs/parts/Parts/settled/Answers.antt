use Rattle.std.proofs.Common.{ℕ, refl, subst, arith, rules}
use Rattle.schedule_states.proofs.Going.{settled_more, settled_still}
use Rattle.schedule_states.proofs.Growing.{grown_then, moved_itself, moved_then}
use Rattle.schedule_states.specs.Successors.{HaveMoved, IsOwnRequest, IsSuccessor}
use Rattle.schedule_states.specs.declared.successor.Successor.TheVariants as answer
use Rattle.schedule_states.proofs.parts.Parts.settled.Goals as goal

pub loop-made-init : goal.loop-made-init
loop-made-init c = record {
  settled = settled_still c.args.self.now c.args.state c.args.hart;
  lists = c.requires.lists;
  moved = moved_itself c.args.hart c.args.state.harts.items;
  grown = record { table = record { start = refl; grows = λ n s found. found }; lists = λ n held found. found; claims = refl };
}

pub loop-made-preserved : goal.loop-made-preserved
loop-made-preserved c =
    let own : IsOwnRequest c.loop-made.self c.loop-made.at c.args.hart c.in-Some.asking = c.in-Some.ensures in
    let successor : IsSuccessor c.loop-made.self c.serve.new.self c.loop-made.at c.args.hart (answer.State c.in-State.next c.in-State._mark) =
    subst (λ (h : ℕ). IsSuccessor c.loop-made.self c.serve.new.self c.loop-made.at h (answer.State c.in-State.next c.in-State._mark)) own.0
    (rw c.in-State.is at c.in_ok-next.ensures.successor) in
    let moved : HaveMoved c.args.hart c.loop-made.at.harts.items c.in-State.next.harts.items =
    subst (λ (h : ℕ). HaveMoved h c.loop-made.at.harts.items c.in-State.next.harts.items) own.0 (rw c.in-State.is at c.in_ok-next.ensures.harts) in record {
      settled = settled_more c.args.self.now c.loop-made.self c.serve.new.self c.args.state c.loop-made.at c.in-State.next c.args.hart c.in-Some.asking c.in-State._mark
          c.loop-made.invariant.grown.claims c.loop-made.invariant.settled own successor;
      lists = rw c.in-State.is at c.in_ok-next.ensures.lists;
      moved = moved_then c.args.hart c.args.state.harts.items c.loop-made.at.harts.items c.in-State.next.harts.items c.loop-made.invariant.moved moved;
      grown = grown_then c.args.self.now c.loop-made.self c.serve.new.self c.loop-made.invariant.grown c.serve.ensures.grown;
    }

pub returns-in_err-next-clause-grown : goal.returns-in_err-next-clause-grown
returns-in_err-next-clause-grown c = grown_then c.args.self.now c.loop-made.self c.serve.new.self c.loop-made.invariant.grown c.serve.ensures.grown

pub own_request-requires-clause-there : goal.own_request-requires-clause-there
own_request-requires-clause-there c = omega (arith, c.loop-made.invariant.moved.count, c.requires.there)

pub own_request-requires-clause-few : goal.own_request-requires-clause-few
own_request-requires-clause-few c = omega (arith, c.loop-made.invariant.moved.count, c.requires.few)

pub serve-requires-clause-few : goal.serve-requires-clause-few
serve-requires-clause-few c = omega (arith, c.loop-made.invariant.moved.count, c.requires.few)

pub returns-in_default-2 : goal.returns-in_default-2
returns-in_default-2 c = record {
  settled = search rules;
  lists = search rules;
  harts = search rules;
  grown = grown_then c.args.self.now c.loop-made.self c.serve.new.self c.loop-made.invariant.grown c.serve.ensures.grown;
}
