use Rattle.std.proofs.Common.{ap}
use Rattle.std.proofs.lemmas.Result.{on_ok_weaker}
use Rattle.store_trace.specs.Marks.{begun_by}
use Rattle.image_check.proofs.Noting.{begins_noted, ends_noted, others_noted}
use Rattle.image_check.proofs.Reading.{ok_held}
use Rattle.image_check.proofs.Rising.{fewer_in_order}
use Rattle.image_check.proofs.legal.Outcomes.note.Goals as goal

pub returns-in-Begin-clause-outcomes : goal.returns-in-Begin-clause-outcomes
returns-in-Begin-clause-outcomes c =
    on_ok_weaker c.begin.result (λ more start before o n.
    begins_noted c.args.plan.now.operations start c.args.self.now.settled c.begin.new.self.settled before c.args.event c.in-Begin.hart c.in-Begin.op
    c.args.self.now.under_way.items c.begin.new.self.under_way.items c.in-Begin.is c.begin.ensures.settled more o n) c.begin.ensures.under_way

pub returns-in-End-clause-outcomes : goal.returns-in-End-clause-outcomes
returns-in-End-clause-outcomes c =
    on_ok_weaker c.end.result (λ settled start before o n.
    ends_noted c.args.plan.now.operations start c.args.self.now.settled c.end.new.self.settled before c.args.event c.in-End.hart c.in-End.op
    c.args.self.now.under_way.items c.end.new.self.under_way.items c.in-End.is settled c.end.ensures.under_way o) c.end.ensures.settled

pub returns-in-Store-clause-outcomes : goal.returns-in-Store-clause-outcomes
returns-in-Store-clause-outcomes c = λ start before o n.
    others_noted c.args.plan.now.operations start c.args.self.now.settled before c.args.event c.args.self.now.under_way.items c.in-Store.is o

pub returns-in-Begin-clause-in_order : goal.returns-in-Begin-clause-in_order
returns-in-Begin-clause-in_order c =
    on_ok_weaker c.begin.result (λ more h fresh. more h (fresh c.in-Begin.op (ap begun_by c.in-Begin.is))) c.begin.ensures.in_order

pub returns-in-End-clause-in_order : goal.returns-in-End-clause-in_order
returns-in-End-clause-in_order c =
    ok_held c.end.result _
    (λ h fresh. fewer_in_order c.args.self.now.under_way.items c.end.new.self.under_way.items c.in-End.op c.end.ensures.under_way h)
