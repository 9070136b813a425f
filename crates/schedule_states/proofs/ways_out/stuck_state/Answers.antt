use Rattle.std.proofs.Common.{List, ℕ, length, ap, arith}
use Rattle.schedule_states.proofs.Marking.{some_weaker}
use Rattle.schedule_states.proofs.ways_out.stuck_state.Goals as goal

pub first_stuck-requires-clause-inside : goal.first_stuck-requires-clause-inside
first_stuck-requires-clause-inside g c = rw c.deref.ensures.value c.requires.inside

pub returns-clause-none : goal.returns-clause-none
returns-clause-none g c told n few =
    let there = c.first_stuck.ensures.none told n (omega (arith, few, c.requires.count, ap (λ (xs : List (List ℕ)). length xs) c.deref.ensures.value)) in record {
      marks = c.in_ok-marks.marks.items;
      ends = c.in_ok-marks.ensures;
      leads = rw (c.deref.ensures.value, c.deref_mut.ensures.value) at there;
    }

pub returns-clause-found : goal.returns-clause-found
returns-clause-found g c = some_weaker c.first_stuck.result _ _ (λ n out. record {
  marks = c.in_ok-marks.marks.items;
  ends = c.in_ok-marks.ensures;
  leads = rw (c.deref.ensures.value, c.deref_mut.ensures.value) at out;
}) c.first_stuck.ensures.stuck
