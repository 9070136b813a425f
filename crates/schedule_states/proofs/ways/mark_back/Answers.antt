use Rattle.std.proofs.Common.{rules}
use Rattle.schedule_states.proofs.Marking.{leads_through}
use Rattle.schedule_states.specs.Ways.{LeadsOut}
use Rattle.schedule_states.proofs.ways.mark_back.Goals as goal

pub passes-init : goal.passes-init
passes-init c = record { count = c.requires.count; sound = λ n marked. LeadsOut.here n marked; kept = λ n marked. marked }

pub passes-preserved : goal.passes-preserved
passes-preserved c = record {
  count = search rules;
  sound = λ n marked. leads_through c.args.next.now c.args.marks.now c.passes.marks c.passes.invariant.sound n (c.mark_pass.ensures.sound n marked);
  kept = λ n marked. c.mark_pass.ensures.kept n (c.passes.invariant.kept n marked);
}

pub returns-clause-sound : goal.returns-clause-sound
returns-clause-sound c n marked = leads_through c.args.next.now c.args.marks.now c.passes.marks c.passes.invariant.sound n (c.mark_pass.ensures.sound n marked)

pub returns-clause-back : goal.returns-clause-back
returns-clause-back c = c.mark_pass.ensures.back (search rules)
