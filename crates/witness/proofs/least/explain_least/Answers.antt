use Rattle.std.proofs.Common.{◌≡◌, ◌≤◌, ℕ, List, length, map, take, ap, ◌∙◌, arith}
use Rattle.std.proofs.lemmas.List.{length-take-le}
use Rattle.std.proofs.lemmas.List.Elements.{All-take}
use Rattle.store_trace.specs.History.{at_moment, history}
use Rattle.store_trace.specs.TraceView.{IsEvent}
use Rattle.store_trace.specs.declared.event.Event.{Event}
use Rattle.machine.specs.Steps.{all_steps}
use Rattle.witness.specs.Needed.{needed_entry}
use Rattle.witness.proofs.Counting.{few_explained}
use Rattle.witness.proofs.Needed.{needed_lines}
use Rattle.witness.proofs.NeededRuns.{explains_least}
use Rattle.witness.proofs.least.explain_least.Goals as goal

taken_few : (events whole : List Event) (moment : ℕ) → moment ≤ length whole → events ≡ whole → length whole ≤ 65536 → length (take moment events) ≤ 65536
taken_few events whole moment there same few =
    let long = ap (λ (es : List Event). length es) same in
    rw (length-take-le moment events (omega (arith, there, long))) (omega (arith, there, few))

pub needed_entries-requires-clause-each : goal.needed_entries-requires-clause-each
needed_entries-requires-clause-each c =
    All-take IsEvent c.args.moment c.events-events.result.now (rw c.events-events.ensures.value c.events-events.ensures.each)

pub needed_entries-requires-clause-few : goal.needed_entries-requires-clause-few
needed_entries-requires-clause-few c =
    taken_few c.events-events.result.now c.args.recorded.now.trace c.args.moment c.in_ok-demand_cut.ensures.within
    (c.events-events.ensures.value ∙ c.trace.ensures.value) c.trace.ensures.limit

pub explained-requires-clause-entries : goal.explained-requires-clause-entries
explained-requires-clause-entries c =
    needed_lines (length c.args.recorded.now.start) (history (take c.args.moment c.events-events.result.now)) c.args.cut.now c.deref.result.now
    (c.deref.ensures.value ∙ c.in_ok-needed.ensures
    ∙ ap (λ (es : List (ℕ × ℕ)). map (needed_entry (history (take c.args.moment c.events-events.result.now))) es) c.entries.ensures)
    c.in_ok-demand_cut.ensures.lines

pub returns-clause-ok : goal.returns-clause-ok
returns-clause-ok c =
    explains_least c.args.recorded.now c.args.moment c.args.cut.now c.deref.result.now (all_steps c.in_ok-explained.field-0)
    c.in_ok-demand_cut.ensures.ok
    (c.deref.ensures.value ∙ c.in_ok-needed.ensures
    ∙ ap (λ (es : List (ℕ × ℕ)). map (needed_entry (history (take c.args.moment c.events-events.result.now))) es) c.entries.ensures
    ∙ ap (λ (es : List Event). map (needed_entry (at_moment es c.args.moment)) c.args.cut.now) (c.events-events.ensures.value ∙ c.trace.ensures.value))
    c.in_ok-explained.ensures.follows

pub returns-clause-few : goal.returns-clause-few
returns-clause-few c =
    few_explained c.args.recorded.now c.args.moment c.in_ok-explained.field-0 (returns-clause-ok c).hart_steps_are
