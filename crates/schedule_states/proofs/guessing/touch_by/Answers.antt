use Rattle.std.proofs.Common.{◌∙◌}
use Rattle.schedule_states.proofs.Numbering.{lists_kept}
use Rattle.schedule_states.specs.Successors.{HaveMoved}
use Rattle.schedule_states.proofs.guessing.touch_by.Goals as goal

pub loop-made-preserved : goal.loop-made-preserved
loop-made-preserved c =
    let moved : HaveMoved c.args.hart c.loop-made.at.harts.items c.in-State.next.harts.items = rw c.in-State.is at c.in_ok-next.ensures.harts in record {
      lists = rw c.in-State.is at c.in_ok-next.ensures.lists;
      count = moved.count ∙ c.loop-made.invariant.count;
    }

pub returns-in_default-2 : goal.returns-in_default-2
returns-in_default-2 c = record {
  lists = lists_kept c.loop-made.parts c.after_request.new.self c.loop-made.at c.after_request.ensures.grown c.loop-made.invariant.lists;
  count = c.loop-made.invariant.count;
}
