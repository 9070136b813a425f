use Rattle.std.proofs.Common.{◌∙◌, sym}
use Rattle.store_trace.specs.Marks.{ended_by}
use Rattle.image_check.proofs.Following.{one_ended}
use Rattle.image_check.proofs.plan_state.PlanState.note.Goals as goal

pub returns-in_ok-end-clause-ended : goal.returns-in_ok-end-clause-ended
returns-in_ok-end-clause-ended c =
    one_ended (ended_by c.args.event) c.in-Some.op c.args.self.now.ended.items c.end.new.self.ended.items (sym c.ended.ensures ∙ c.in-Some.is)
    c.in_ok-end.ensures.ended

pub returns-in_ok-end-clause-ended_in_order : goal.returns-in_ok-end-clause-ended_in_order
returns-in_ok-end-clause-ended_in_order c = λ h fresh. c.in_ok-end.ensures.in_order h (fresh c.in-Some.op (sym c.ended.ensures ∙ c.in-Some.is))
