use Rattle.std.proofs.Common.{arith}
use Rattle.std.proofs.lemmas.List.{take_rest}
use Rattle.command_line.proofs.Written.{front_none, part_kept, part_more}
use Rattle.command_line.proofs.streams.write_uninterrupted.Goals as goal
use Rattle.command_line.proofs.streams.write_uninterrupted.Goals.{in-Ok, in-Err}

pub returns-in-Ok-eq0-clause-front : goal.returns-in-Ok-eq0-clause-front
returns-in-Ok-eq0-clause-front g c =
    let wrote = rw (c.in-Ok-eq0.is, c.in-Ok-eq0.field-0-test) at c.write.ensures.bytes in
    front_none _ _ _ _ c.loop.written c.loop.invariant.part wrote

pub loop-preserved : goal.loop-preserved
loop-preserved g c = elim c.match-write.branch [
  | in-Ok w ↦ record {
    within = omega (arith, w.in-Ok.ensures.bound, w.written-is);
    part = rw w.written-is (part_more _ _ _ _ c.loop.written _ c.loop.invariant.part (rw take_rest at w.in-Ok.ensures.bytes));
  }
  | in-Err w ↦ record {
    within = rw w.written-is c.loop.invariant.within;
    part = rw w.written-is (part_kept _ _ _ _ c.loop.invariant.part w.in-Err.ensures.bytes);
  }
]
