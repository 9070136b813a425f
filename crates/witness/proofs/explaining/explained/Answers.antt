use Rattle.std.proofs.Common.{◌≡◌, ℕ, ◌++◌, length, take, drop, max, get_or, List, ap, ◌∙◌, arith}
use Rattle.std.specs.Prelude.{slice_index_or}
use Rattle.std.proofs.lemmas.Grind.{common_steps}
use Rattle.store_trace.specs.Cut.{number_in}
use Rattle.machine.specs.Steps.{all_steps}
use Rattle.store_trace.specs.History.{at_moment}
use Rattle.store_trace.specs.declared.event.Event.{Event}
use Rattle.witness.specs.Explains.{steps_by}
use Rattle.witness.proofs.Following.{at_end, at_next}
use Rattle.witness.proofs.explaining.explained.Goals as goal

pub loop-index-preserved : goal.loop-index-preserved
loop-index-preserved c =
    let same : take c.loop-index.due.len (c.line_due-line.new.due ++ drop (length c.line_due-line.new.due) c.loop-index.due.items) ≡ c.line_due-line.new.due =
    grind (arith, common_steps, c.loop-index.due.ok, c.deref_mut.ensures.len, c.deref_mut.ensures.value, c.line_due-line.auto.due) in (
      rw same (
          at_next c.args.recorded.now (number_in c.args.entries.now) c.args.moment c.steps_by-last.result c.loop-index.index _ c.loop-index.steps
          c.copy_through.new.self (all_steps c.loop-index.schedule) (all_steps c.copy_through.new.schedule) (all_steps c.push_eviction.new.schedule) c.loop-index.due.items _ _ _
          c.line_due-line.result c.steps-numbers.ensures.count c.requires.moment (omega arith)
          (c.steps_by-last.ensures ∙ ap (λ (ns : List ℕ). steps_by ns c.args.moment) c.steps-numbers.ensures.value)
          (ap (λ (ns : List ℕ). slice_index_or ns c.loop-index.index 0) c.steps-numbers.ensures.value)
          (ap (λ (es : List Event). get_or es c.loop-index.index _) (c.events-events.ensures.value ∙ c.trace.ensures.value))
          c.loop-index.invariant.0 c.in_ok-copy_through.ensures.copied
          (c.in_ok-copy_through.ensures.taken ∙ ap (λ (n : ℕ). max c.loop-index.steps.taken n) c.min.ensures)
          (c.line_due-line.ensures.line (number_in c.args.entries.now) (at_moment c.args.recorded.now.trace c.loop-index.index)
          (rw c.deref_mut.ensures.value c.loop-index.invariant.0.due_is))
          c.in_ok-push_eviction.ensures.steps
          (c.line_due-line.ensures.due (number_in c.args.entries.now) (at_moment c.args.recorded.now.trace c.loop-index.index)
          (rw c.deref_mut.ensures.value c.loop-index.invariant.0.due_is))
          (omega (arith, c.line_due-line.auto.due, ap (λ (l : List ℕ). length l) c.deref_mut.ensures.value))
          ),
      c.in_ok-push_eviction.ensures.items (c.in_ok-copy_through.ensures.items c.loop-index.invariant.1),
    )

pub returns-clause-follows : goal.returns-clause-follows
returns-clause-follows c =
    let ends : c.loop-index.index ≡ c.args.moment = omega arith in
    at_end c.args.recorded.now (number_in c.args.entries.now) c.args.moment c.steps_by-last.result c.loop-index.steps
    (all_steps c.loop-index.schedule) c.loop-index.due.items
    (c.steps_by-last.ensures ∙ ap (λ (ns : List ℕ). steps_by ns c.args.moment) c.steps-numbers.ensures.value)
    (rw ends at c.loop-index.invariant.0)
