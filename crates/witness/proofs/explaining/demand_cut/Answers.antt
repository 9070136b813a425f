use Rattle.std.proofs.Common.{List, refl, ap, subst, ◌∙◌, rules}
use Rattle.store_trace.specs.Cut.{IsCut}
use Rattle.store_trace.specs.declared.crash_model.step.PersistenceStep.{PersistenceStep}
use Rattle.store_trace.specs.History.{at_moment}
use Rattle.store_trace.specs.declared.event.Event.{Event}
use Rattle.witness.proofs.Leaving.{cut_lines}
use Rattle.witness.proofs.explaining.demand_cut.Goals as goal

pub returns-clause-ok : goal.returns-clause-ok
returns-clause-ok c =
    subst (λ (p : List PersistenceStep). IsCut p c.args.cut.now)
    (c.in_ok-cuts.ensures.ok.1 ∙ ap (λ (es : List Event). at_moment es c.args.moment) c.trace.ensures.value)
    (c.if-not-contains.ensures.0 (search rules))

pub returns-clause-lines : goal.returns-clause-lines
returns-clause-lines c =
    cut_lines c.args.recorded.now c.args.moment c.args.cut.now c.args.cut.now c.trace.ensures.named (returns-clause-ok c) refl
