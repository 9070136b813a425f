use Rattle.std.proofs.Common.{◌≡◌, ◌<◌, List, ap, length, refl, subst, arith}
use Rattle.store_trace.specs.Cut.{cut_count}
use Rattle.store_trace.specs.History.{at_moment}
use Rattle.store_trace.specs.declared.event.Event.{Event}
use Rattle.crash_image.proofs.Totaling.{few_more, free_count, sum_adds, sum_skips}
use Rattle.crash_image.specs.Totals.{choices_of}
use Rattle.crash_image.proofs.totals.images_between.Goals as goal
use Rattle.crash_image.proofs.totals.images_between.Goals.{then-first-moment+in-Some, else-first-moment}

pub returns-in_default : goal.returns-in_default
returns-in_default c =
    let count : choices_of c.deref.result.now ≡ cut_count (at_moment c.events-events.result.now c.loop-moment.moment) =
    free_count c.events-events.result.now c.loop-moment.moment _ c.deref.result.now c.loop-moment.free.items
    c.deref.ensures.value c.loop-moment.invariant.free refl in
    let many : 65536 < cut_count (at_moment c.events-events.result.now c.loop-moment.moment) = rw (← count) (c.in_default.ensures.none.0 refl) in (
      c.loop-moment.moment,
      c.if-first-moment.true,
      c.loop-moment-test.true,
      subst (λ (es : List Event). 65536 < cut_count (at_moment es c.loop-moment.moment)) c.events-events.ensures.value many,
    )

pub loop-moment-preserved : goal.loop-moment-preserved
loop-moment-preserved c = elim c.if-first-moment.branch [
  | then-first-moment+in-Some w ↦
      let count : w.in-Some.count ≡ cut_count (at_moment c.events-events.result.now c.loop-moment.moment) =
      free_count c.events-events.result.now c.loop-moment.moment w.in-Some.count w.deref.result.now c.loop-moment.free.items
      w.deref.ensures.value c.loop-moment.invariant.free w.in-Some.ensures.some.0 in
      record {
        free = c.in_ok-next.ensures;
        total = rw w.total-is (sum_adds c.events-events.result.now c.args.first c.loop-moment.moment c.loop-moment.total w.in-Some.count
            w.if-first-moment.true c.loop-moment.invariant.total count);
        small = omega (arith, w.total-is, c.loop-moment.invariant.small, w.in-Some.ensures.some.1);
        few = few_more c.events-events.result.now c.args.first c.loop-moment.moment w.in-Some.count c.loop-moment.invariant.few count w.in-Some.ensures.some.1;
      }
  | else-first-moment w ↦ record {
    free = c.in_ok-next.ensures;
    total = rw w.total-is (sum_skips c.events-events.result.now c.args.first c.loop-moment.moment c.loop-moment.total
        (omega (arith, w.if-first-moment.false)) c.loop-moment.invariant.total);
    small = omega (arith, w.total-is, c.loop-moment.invariant.small);
    few = λ m from h. c.loop-moment.invariant.few m from (omega (arith, from, h, w.if-first-moment.false));
  }
]

pub next-requires-clause-events : goal.next-requires-clause-events
next-requires-clause-events c = rw c.events-events.ensures.value c.events-events.ensures.each

pub next-requires-clause-few : goal.next-requires-clause-few
next-requires-clause-few c = rw c.events-events.ensures.value c.events-events.ensures.limit

pub next-requires-clause-there : goal.next-requires-clause-there
next-requires-clause-there c =
    omega (arith, ap (λ (es : List Event). length es) c.events-events.ensures.value, c.requires, c.loop-moment-test.true)

pub next-requires-clause-free : goal.next-requires-clause-free
next-requires-clause-free c = c.loop-moment.invariant.free
