use Rattle.std.proofs.Common.{arith}
use Rattle.schedule_states.proofs.ways_out.shown.Goals as goal

pub arrives-requires-clause-inside : goal.arrives-requires-clause-inside
arrives-requires-clause-inside g c = rw c.deref.ensures.value c.requires.inside

pub arrives-requires-clause-harts : goal.arrives-requires-clause-harts
arrives-requires-clause-harts g c = rw c.deref-2.ensures.value (λ k d less. omega (arith, c.in_ok-requests.ensures k d less, c.are_numbered.ensures.few))
