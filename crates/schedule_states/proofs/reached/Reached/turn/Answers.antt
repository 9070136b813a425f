use Rattle.std.proofs.Common.{◌≡◌, false, true, Some, slice_get, refl, sym, subst, arith, rules}
use Rattle.machine.specs.Replies.{SharedState, trace_in}
use Rattle.machine.specs.Run.{Config, started}
use Rattle.schedule_states.proofs.Closing.{grown_twice}
use Rattle.schedule_states.proofs.Going.{led_on_own, leads_by, taken_of, turned_as}
use Rattle.schedule_states.proofs.Happening.{LeadsOn, leads_on, led_next, led_start}
use Rattle.schedule_states.proofs.Numbering.{numbered_grown}
use Rattle.schedule_states.proofs.Onward.{led_as_before, only_grown}
use Rattle.schedule_states.proofs.Returning.{stands_before}
use Rattle.schedule_states.specs.Covering.{IsMet, IsTaken, ReachedView}
use Rattle.schedule_states.specs.Happening.{IsAtRequest, IsLedAs}
use Rattle.schedule_states.specs.Onward.{only}
use Rattle.schedule_states.specs.Reaching.{ArePartsOf, HaveGrown, IsKeptOn}
use Rattle.schedule_states.specs.States.{AsksTo, StandsFor}
use Rattle.schedule_states.specs.Successors.{HasLists, HaveMoved, IfState, IsTurnOf, IsTurned}
use Rattle.schedule_states.specs.Turns.{MayClaim}
use Rattle.schedule_states.specs.declared.successor.Successor.TheVariants as answer
use Rattle.schedule_states.proofs.reached.Reached.turn.Goals as goal

pub returns-then-not-may_go-clause-turn : goal.returns-then-not-may_go-clause-turn
returns-then-not-may_go-clause-turn g c = λ t kept k d stands_as may asks.
    let refused : c.may_go.result ≡ false = search rules in
    absurd (c.may_go.ensures.not refused t kept (trace_in k.common) stands_as.1 may)

pub numbers_for-requires-clause-before : goal.numbers_for-requires-clause-before
numbers_for-requires-clause-before g c κs within =
    let parts = subst (λ (r : ReachedView _). ArePartsOf r c.args.numbers.now r.harts c.args.state.now.harts.items) (sym c.self.view_is) c.requires.parts in
    let moved : IfState (answer.State c.in-State.next c.in-State.mark) (λ next. HaveMoved c.args.hart c.args.state.now.harts.items next.harts.items) =
    rw c.in-State.is at c.in_ok-next.ensures.harts in
    rw c.deref.ensures.value (record { numbered = λ h part few here. parts.each h part here; others = moved.others })

pub invariant_of-self : goal.invariant_of-self
invariant_of-self g c = numbered_grown
    (record { parts = c.self.inside.parts; hart_parts = c.self.inside.hart_parts; standings = c.self.inside.standings; states = c.self.inside.states; harts = c.self.inside.leads })
    c.after_request.new.self c.self.inside.standings c.after_request.ensures.grown (λ n value found. found) c.self.invariant

pub returns-in_err-next-clause-before : goal.returns-in_err-next-clause-before
returns-in_err-next-clause-before g c =
    rw (sym c.self.view_is) (λ s k lists stands. stands_before c.self.inside.parts c.after_request.new.self s k c.after_request.ensures.grown c.lists_are_there.ensures lists stands)

pub invariant_of-self-in_err-standing-in-State : goal.invariant_of-self-in_err-standing-in-State
invariant_of-self-in_err-standing-in-State g c = numbered_grown
    (record { parts = c.self.inside.parts; hart_parts = c.self.inside.hart_parts; standings = c.self.inside.standings; states = c.self.inside.states; harts = c.self.inside.leads })
    c.after_request.new.self c.standing_after.new.known c.after_request.ensures.grown c.standing_after.ensures.kept c.self.invariant

pub returns-in_err-standing-in-State-clause-before : goal.returns-in_err-standing-in-State-clause-before
returns-in_err-standing-in-State-clause-before g c =
    rw (sym c.self.view_is) (λ s k lists stands. stands_before c.self.inside.parts c.after_request.new.self s k c.after_request.ensures.grown c.lists_are_there.ensures lists stands)

pub invariant_of-self-in_default : goal.invariant_of-self-in_default
invariant_of-self-in_default g c = numbered_grown
    (record { parts = c.self.inside.parts; hart_parts = c.self.inside.hart_parts; standings = c.self.inside.standings; states = c.self.inside.states; harts = c.self.inside.leads })
    c.after_request.new.self c.standing_after.new.known c.after_request.ensures.grown c.standing_after.ensures.kept c.self.invariant

pub returns-in_default-clause-before : goal.returns-in_default-clause-before
returns-in_default-clause-before g c =
    rw (sym c.self.view_is) (λ s k lists stands. stands_before c.self.inside.parts c.after_request.new.self s k c.after_request.ensures.grown c.lists_are_there.ensures lists stands)

pub invariant_of-self-in-State : goal.invariant_of-self-in-State
invariant_of-self-in-State g c = numbered_grown
    (record { parts = c.self.inside.parts; hart_parts = c.self.inside.hart_parts; standings = c.self.inside.standings; states = c.self.inside.states; harts = c.self.inside.leads })
    c.after_request.new.self c.standing_after.new.known c.after_request.ensures.grown c.standing_after.ensures.kept c.self.invariant

pub returns-in_err-to-in-State-clause-before : goal.returns-in_err-to-in-State-clause-before
returns-in_err-to-in-State-clause-before g c =
    rw (sym c.self.view_is) (λ s k lists stands. stands_before c.self.inside.parts c.numbers_for.new.self.parts s k
    (rw c.numbers_for.ensures.parts c.after_request.ensures.grown) c.lists_are_there.ensures lists stands)

pub invariant_of-self-in-Stopped : goal.invariant_of-self-in-Stopped
invariant_of-self-in-Stopped g c = numbered_grown
    (record { parts = c.self.inside.parts; hart_parts = c.self.inside.hart_parts; standings = c.self.inside.standings; states = c.self.inside.states; harts = c.self.inside.leads })
    c.after_request.new.self c.self.inside.standings c.after_request.ensures.grown (λ n value found. found) c.self.invariant

pub invariant_of-self-in-Claimed : goal.invariant_of-self-in-Claimed
invariant_of-self-in-Claimed g c = numbered_grown
    (record { parts = c.self.inside.parts; hart_parts = c.self.inside.hart_parts; standings = c.self.inside.standings; states = c.self.inside.states; harts = c.self.inside.leads })
    c.after_request.new.self c.self.inside.standings c.after_request.ensures.grown (λ n value found. found) c.self.invariant

pub returns-in-Claimed-clause-before : goal.returns-in-Claimed-clause-before
returns-in-Claimed-clause-before g c =
    rw (sym c.self.view_is) (λ s k lists stands. stands_before c.self.inside.parts c.after_request.new.self s k c.after_request.ensures.grown c.lists_are_there.ensures lists stands)

pub invariant_of-self-in-TooLong : goal.invariant_of-self-in-TooLong
invariant_of-self-in-TooLong g c = numbered_grown
    (record { parts = c.self.inside.parts; hart_parts = c.self.inside.hart_parts; standings = c.self.inside.standings; states = c.self.inside.states; harts = c.self.inside.leads })
    c.after_request.new.self c.self.inside.standings c.after_request.ensures.grown (λ n value found. found) c.self.invariant

pub returns-in_ok-to-in-State-clause-before : goal.returns-in_ok-to-in-State-clause-before
returns-in_ok-to-in-State-clause-before g c =
    rw (sym c.self.view_is) (λ s k lists stands. stands_before c.self.inside.parts c.numbers_for.new.self.parts s k
    (rw c.numbers_for.ensures.parts c.after_request.ensures.grown) c.lists_are_there.ensures lists stands)

pub returns-in-Stopped-clause-before : goal.returns-in-Stopped-clause-before
returns-in-Stopped-clause-before g c =
    rw (sym c.self.view_is) (λ s k lists stands. stands_before c.self.inside.parts c.after_request.new.self s k c.after_request.ensures.grown c.lists_are_there.ensures lists stands)

pub returns-in-TooLong-clause-before : goal.returns-in-TooLong-clause-before
returns-in-TooLong-clause-before g c =
    rw (sym c.self.view_is) (λ s k lists stands. stands_before c.self.inside.parts c.after_request.new.self s k c.after_request.ensures.grown c.lists_are_there.ensures lists stands)

pub returns-in_ok-to-in-State-clause-turn : goal.returns-in_ok-to-in-State-clause-turn
returns-in_ok-to-in-State-clause-turn g c = λ t kept.
    let old : ReachedView _ = record { parts = c.self.inside.parts; hart_parts = c.self.inside.hart_parts; standings = c.self.inside.standings; states = c.self.inside.states; harts = c.self.inside.leads } in
    let middle : ReachedView _ = record { parts = c.after_request.new.self; hart_parts = c.self.inside.hart_parts; standings = c.standing_after.new.known; states = c.self.inside.states; harts = c.self.inside.leads } in
    let to_middle : HaveGrown old middle = record {
      parts = c.after_request.ensures.grown;
      hart_parts = λ n value found. found;
      standings = c.standing_after.ensures.kept;
      states = λ n value found. found;
      harts = refl;
    } in
    let grown : HaveGrown old c.numbers_for.new.self = grown_twice old middle c.numbers_for.new.self to_middle c.numbers_for.ensures.grown in
    let to : ReachedView _ = only c.numbers_for.new.self c.in_ok-to-in-State.to in
    let lists : HasLists c.self.inside.parts c.args.state.now = rw (sym c.self.view_is) at c.requires.lists in
    let turn : IsTurnOf c.self.inside.parts c.after_request.new.self c.args.state.now c.args.hart (answer.State c.in-State.next c.in-State.mark) =
    rw c.in-State.is at c.in_ok-next.ensures.turn in
    let was : slice_get c.self.inside.standings c.args.numbers.now.standing ≡ Some t = rw (sym c.self.view_is) at kept in
    let on : IsKeptOn (g.J.StateJudge.stands c.args.judge.now) c.self.inside.standings c.standing_after.new.known c.args.numbers.now.standing c.in-State.mark c.in-Some.standing =
    search rules in
    let next = on t was in
    let claims : c.numbers_for.new.self.parts.claims ≡ c.self.inside.parts.claims = rw c.numbers_for.ensures.parts c.after_request.ensures.grown.claims in
    let before : (k : Config) → StandsFor c.numbers_for.new.self.parts c.args.state.now k → StandsFor c.self.inside.parts c.args.state.now k = λ k stands.
    stands_before c.self.inside.parts c.after_request.new.self c.args.state.now k c.after_request.ensures.grown c.lists_are_there.ensures lists
    (rw c.numbers_for.ensures.parts at stands) in
    let met : IsMet to 0 c.in-State.next next.0 = c.in_ok-to-in-State.ensures.met next.0 next.1 in
    let comes : (k d : Config) → StandsFor c.self.inside.parts c.args.state.now k → g.J.StateJudge.stands c.args.judge.now t (trace_in k.common) → (asks : AsksTo k c.args.hart d) →
    IsTaken (g.J.StateJudge.stands c.args.judge.now) to t c.args.hart 0 k d asks.request = λ k d stands stood asks.
    taken_of (g.J.StateJudge.stands c.args.judge.now) c.self.inside.parts c.after_request.new.self to c.in-State.next t next.0 c.args.hart 0 c.in-State.mark
    k d asks (λ x es event plain. g.met.J.StateJudge.unmarked c.args.judge.now x es event plain) claims c.numbers_for.ensures.parts met next.2 stood (turn k d stands asks) in
    let allowed : c.may_go.result ≡ true = search rules in
    let at : IsAtRequest c.self.inside.parts c.args.state.now c.args.hart = rw c.in-State.is at c.in_ok-next.ensures.asks in record {
      there = c.in_ok-to-in-State.ensures.there;
      turn = (
        λ k d stands_as may asks. comes k d (before k stands_as.0) stands_as.1 asks,
        record {
          there = omega arith;
          leads = λ k stands_as.
              let may : g.J.StateJudge.allows c.args.judge.now (trace_in k.common) c.args.hart = c.may_go.ensures.may allowed t kept (trace_in k.common) stands_as.1 in
              let on : LeadsOn (g.J.StateJudge.allows c.args.judge.now) k c.self.inside.parts c.args.state.now k c.args.hart =
              leads_on (g.J.StateJudge.allows c.args.judge.now) k c.self.inside.parts c.args.state.now k c.args.hart (led_start (g.J.StateJudge.allows c.args.judge.now) k) may
              (before k stands_as.0) at in
              let stood : g.J.StateJudge.stands c.args.judge.now t (trace_in on.ready.common) =
              subst (λ (common : SharedState). g.J.StateJudge.stands c.args.judge.now t (trace_in common)) (sym on.still) stands_as.1 in
              leads_by (g.J.StateJudge.stands c.args.judge.now) to k on.ready on.next t c.args.hart 0 on.asks.request on.led.steps on.led.runs
              (comes on.ready on.next on.stands stood on.asks);
        },
      );
      led = λ led.
          let led_in : IsLedAs (g.J.StateJudge.stands c.args.judge.now) (g.J.StateJudge.allows c.args.judge.now) old c.args.state.now t =
          led_as_before (g.J.StateJudge.stands c.args.judge.now) (g.J.StateJudge.allows c.args.judge.now) old c.numbers_for.new.self c.args.state.now t lists grown
          (λ s k has stands. stands_before c.self.inside.parts c.after_request.new.self s k c.after_request.ensures.grown c.lists_are_there.ensures has
          (rw c.numbers_for.ensures.parts at stands)) led in
          let may_in : g.J.StateJudge.allows c.args.judge.now (trace_in led_in.end.common) c.args.hart = c.may_go.ensures.may allowed t kept (trace_in led_in.end.common) led_in.stands_as.1 in
          let on : LeadsOn (g.J.StateJudge.allows c.args.judge.now) (started old.parts.table.start.program old.parts.table.start.medium old.harts) old.parts c.args.state.now led_in.end c.args.hart =
          leads_on (g.J.StateJudge.allows c.args.judge.now) (started old.parts.table.start.program old.parts.table.start.medium old.harts) old.parts c.args.state.now led_in.end c.args.hart led_in.led may_in
          led_in.stands_as.0 at in
          let stood : g.J.StateJudge.stands c.args.judge.now t (trace_in on.ready.common) =
          subst (λ (common : SharedState). g.J.StateJudge.stands c.args.judge.now t (trace_in common)) (sym on.still) led_in.stands_as.1 in
          let turned : IsTurned c.self.inside.parts c.after_request.new.self c.args.hart c.in-State.next c.in-State.mark on.ready on.next on.asks.request = turn on.ready on.next on.stands on.asks in
          let free : MayClaim (g.J.StateJudge.allows c.args.judge.now) c.self.inside.parts.claims = rw (sym c.self.view_is) at c.requires.claims in record {
            state = c.in-State.next;
            standing = next.0;
            met = met;
            led_as = led_next (g.J.StateJudge.stands c.args.judge.now) (g.J.StateJudge.allows c.args.judge.now) (only old c.in_ok-to-in-State.to) to c.in-State.next next.0 turned.end
                (only_grown old c.numbers_for.new.self c.in_ok-to-in-State.to grown)
                (led_on_own (g.J.StateJudge.allows c.args.judge.now) c.self.inside.parts.claims (started old.parts.table.start.program old.parts.table.start.medium old.harts) c.args.hart turned.steps on.next
                turned.end free turned.none on.led turned.goes)
                (turned_as (g.J.StateJudge.stands c.args.judge.now) c.self.inside.parts c.after_request.new.self to c.in-State.next t next.0 c.args.hart c.in-State.mark on.ready on.next on.asks
                (λ x es event plain. g.met.J.StateJudge.unmarked c.args.judge.now x es event plain) c.numbers_for.ensures.parts next.2 stood turned);
          };
    }

pub returns-in-Stopped-clause-turn : goal.returns-in-Stopped-clause-turn
returns-in-Stopped-clause-turn g c = λ t kept k d stands_as may asks.
    let lists : HasLists c.self.inside.parts c.args.state.now = rw (sym c.self.view_is) at c.requires.lists in
    let none : IsTurnOf c.self.inside.parts c.after_request.new.self c.args.state.now c.args.hart answer.Stopped =
    rw c.in-Stopped.is at c.in_ok-next.ensures.turn in
    let before : StandsFor c.self.inside.parts c.args.state.now k =
    stands_before c.self.inside.parts c.after_request.new.self c.args.state.now k c.after_request.ensures.grown c.lists_are_there.ensures lists stands_as.0 in
    absurd (none k d before asks)

pub returns-in_err-standing-in-State-clause-grown : goal.returns-in_err-standing-in-State-clause-grown
returns-in_err-standing-in-State-clause-grown g c = rw (sym c.self.view_is) (record {
  parts = c.after_request.ensures.grown;
  hart_parts = λ n value found. found;
  standings = c.standing_after.ensures.kept;
  states = λ n value found. found;
  harts = refl;
})

pub returns-in_default-clause-grown : goal.returns-in_default-clause-grown
returns-in_default-clause-grown g c = rw (sym c.self.view_is) (record {
  parts = c.after_request.ensures.grown;
  hart_parts = λ n value found. found;
  standings = c.standing_after.ensures.kept;
  states = λ n value found. found;
  harts = refl;
})

pub returns-in_err-to-in-State-clause-grown : goal.returns-in_err-to-in-State-clause-grown
returns-in_err-to-in-State-clause-grown g c =
    let old : ReachedView _ = record { parts = c.self.inside.parts; hart_parts = c.self.inside.hart_parts; standings = c.self.inside.standings; states = c.self.inside.states; harts = c.self.inside.leads } in
    let middle : ReachedView _ = record { parts = c.after_request.new.self; hart_parts = c.self.inside.hart_parts; standings = c.standing_after.new.known; states = c.self.inside.states; harts = c.self.inside.leads } in
    let to_middle : HaveGrown old middle = record {
      parts = c.after_request.ensures.grown;
      hart_parts = λ n value found. found;
      standings = c.standing_after.ensures.kept;
      states = λ n value found. found;
      harts = refl;
    } in
    rw (sym c.self.view_is) (grown_twice old middle c.numbers_for.new.self to_middle c.numbers_for.ensures.grown)

pub returns-in_ok-to-in-State-clause-grown : goal.returns-in_ok-to-in-State-clause-grown
returns-in_ok-to-in-State-clause-grown g c =
    let old : ReachedView _ = record { parts = c.self.inside.parts; hart_parts = c.self.inside.hart_parts; standings = c.self.inside.standings; states = c.self.inside.states; harts = c.self.inside.leads } in
    let middle : ReachedView _ = record { parts = c.after_request.new.self; hart_parts = c.self.inside.hart_parts; standings = c.standing_after.new.known; states = c.self.inside.states; harts = c.self.inside.leads } in
    let to_middle : HaveGrown old middle = record {
      parts = c.after_request.ensures.grown;
      hart_parts = λ n value found. found;
      standings = c.standing_after.ensures.kept;
      states = λ n value found. found;
      harts = refl;
    } in
    rw (sym c.self.view_is) (grown_twice old middle c.numbers_for.new.self to_middle c.numbers_for.ensures.grown)
