use Rattle.std.proofs.Common.{◌≡◌, ◌≤◌, ℕ, List, length, take, refl, ap, arith}
use Rattle.std.proofs.lemmas.List.{length-take-le}
use Rattle.std.proofs.lemmas.List.Elements.{All-take}
use Rattle.store_trace.specs.History.{at_moment}
use Rattle.store_trace.specs.TraceView.{IsEvent}
use Rattle.store_trace.specs.declared.event.Event.{Event}
use Rattle.crash_image.specs.View.{NamesLine}
use Rattle.crash_image.proofs.cuts.Cuts.at.Goals as goal

taken_few : (events whole : List Event) (moment : ℕ) → moment ≤ length events → events ≡ whole → length whole ≤ 65536 → length (take moment events) ≤ 65536
taken_few events whole moment there same few = rw (length-take-le moment events there) (omega (arith, there, ap (λ (es : List Event). length es) same, few))

pub line_bounds-requires-clause-events : goal.line_bounds-requires-clause-events
line_bounds-requires-clause-events c =
    All-take IsEvent c.args.moment c.events-events.result.now (rw c.events-events.ensures.value c.events-events.ensures.each)

pub line_bounds-requires-clause-named : goal.line_bounds-requires-clause-named
line_bounds-requires-clause-named c =
    rw c.lines.ensures.count
    (All-take (NamesLine (length c.args.medium.now)) c.args.moment c.events-events.result.now (rw c.events-events.ensures.value c.requires))

pub line_bounds-requires-clause-limit : goal.line_bounds-requires-clause-limit
line_bounds-requires-clause-limit c =
    taken_few c.events-events.result.now c.args.trace.now.events c.args.moment c.if-moment-events.false c.events-events.ensures.value c.events-events.ensures.limit

pub invariant_of-result : goal.invariant_of-result
invariant_of-result c = (
  taken_few c.events-events.result.now c.args.trace.now.events c.args.moment c.if-moment-events.false c.events-events.ensures.value c.events-events.ensures.limit,
  All-take IsEvent c.args.moment c.events-events.result.now (rw c.events-events.ensures.value c.events-events.ensures.each),
  All-take (NamesLine (length c.args.medium.now)) c.args.moment c.events-events.result.now (rw c.events-events.ensures.value c.requires),
  c.in_ok-bounds.ensures,
)

pub returns-clause-ok : goal.returns-clause-ok
returns-clause-ok c = (refl, ap (λ (es : List Event). at_moment es c.args.moment) c.events-events.ensures.value)
