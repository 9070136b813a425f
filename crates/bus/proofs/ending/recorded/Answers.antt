use Rattle.bus.proofs.Recorded.{are_recorded, few_recorded, numbers_each}
use Rattle.bus.proofs.ending.recorded.Goals as goal

pub of-requires-clause-each : goal.of-requires-clause-each
of-requires-clause-each c =
    let made = rw c.in_ok-schedule.was at c.requires.1 in
    numbers_each c.args.core c.requires.0 _ _ _ c.history.ensures.replay c.history.ensures.harts made.agree made.account
    c.power_cut-start.ensures.trace

pub returns-clause-ok : goal.returns-clause-ok
returns-clause-ok c = (
  rw c.in_ok-schedule.was tt,
  λ seats accounted.
      let made = rw c.in_ok-schedule.was at accounted in
      are_recorded c.args.core seats _ _ c.of.result c.history.ensures.replay c.history.ensures.exact c.history.ensures.harts c.power_cut-start.ensures.below
      c.power_cut-start.ensures.capacity made.agree made.account
      (rw (c.power_cut-start.ensures.start, c.power_cut-start.ensures.left, c.power_cut-start.ensures.trace, c.capacity-capacity.ensures.value, made.states_are) at c.of.ensures),
)

pub returns-clause-few : goal.returns-clause-few
returns-clause-few c =
    let made = rw c.in_ok-schedule.was at c.requires.1 in
    few_recorded c.args.core c.requires.0 _ _ c.of.result made.account
    (rw (c.power_cut-start.ensures.start, c.power_cut-start.ensures.left, c.power_cut-start.ensures.trace, c.capacity-capacity.ensures.value, made.states_are) at c.of.ensures)
