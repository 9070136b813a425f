use Rattle.std.proofs.Common.{◌∙◌, sym, arith}
use Rattle.elf_file.proofs.Holding.{found_first, still_none}
use Rattle.elf_file.proofs.lines.cells.row_number_at.Goals as goal

pub returns-then-holds : goal.returns-then-holds
returns-then-holds c =
    found_first c.args.rows.now c.args.pc c.loop-number.number (omega arith) (omega arith) (sym c.holds.ensures ∙ c.if-holds.true) c.loop-number.invariant

pub loop-number-preserved : goal.loop-number-preserved
loop-number-preserved c =
    still_none c.args.rows.now c.args.pc c.loop-number.number (omega arith) (omega arith) (sym c.holds.ensures ∙ c.if-holds.false) c.loop-number.invariant
