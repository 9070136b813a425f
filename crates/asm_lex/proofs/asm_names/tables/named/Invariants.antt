use Rattle.std.proofs.Common.{◌≡◌, drop}
use Rattle.asm_lex.specs.Registers.{named, rows_of}
use Rattle.asm_lex.proofs.asm_names.tables.named.Given as goal

abbrev pub invariant-loop-row : goal.invariant-loop-row
invariant-loop-row g l = named (rows_of l.rows) l.text ≡ named (rows_of (drop l.row-index l.rows)) l.text
