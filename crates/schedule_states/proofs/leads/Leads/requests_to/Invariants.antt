use Rattle.schedule_states.specs.Leads.{AreOfHarts}
use Rattle.schedule_states.proofs.leads.Leads.requests_to.Given as goal

abbrev pub invariant-loop-lead : goal.invariant-loop-lead
invariant-loop-lead l = AreOfHarts l.self l.requests.items

abbrev pub decreases-loop-lead : goal.decreases-loop-lead
decreases-loop-lead l = l.at
