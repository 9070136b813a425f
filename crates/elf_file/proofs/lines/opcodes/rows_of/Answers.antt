use Rattle.std.proofs.Common.{arith}
use Rattle.elf_file.proofs.Runs.{goes_on, stops, is_done}
use Rattle.elf_file.proofs.lines.opcodes.rows_of.Goals as goal

pub returns-in_default : goal.returns-in_default
returns-in_default c = stops c.args.coding c.loop-rest.registers c.loop-rest.rows.items c.loop-rest.invariant.0 c.loop-rest.rest.now _ c.loop-rest.invariant.1 (grind arith) c.in_default.ensures.made c.loop-rest.invariant.2

pub loop-rest-preserved : goal.loop-rest-preserved
loop-rest-preserved c =
    rw c.in_ok-push_listed.ensures (goes_on c.args.coding c.loop-rest.registers c.in-Some.after c.in-Some.row c.loop-rest.rows.items c.loop-rest.invariant.0 c.loop-rest.rest.now c.in-Some.behind.now _ c.loop-rest.invariant.1 c.in-Some.ensures.shorter c.in-Some.ensures.made c.loop-rest.invariant.2)

pub returns : goal.returns
returns c = is_done c.args.coding c.loop-rest.registers c.loop-rest.rows.items c.loop-rest.invariant.0 c.loop-rest.rest.now _ (grind arith) c.loop-rest.invariant.2
