use Rattle.std.proofs.Common.{◌∙◌, sym, arith}
use Rattle.line_memory.proofs.ZeroLines.{line_behind}
use Rattle.line_memory.proofs.padded_lines.PaddedLines.read_line.Goals as goal

pub returns-else-line-len-clause-value : goal.returns-else-line-len-clause-value
returns-else-line-len-clause-value c =
    let there = rw (← c.self.view_is) at c.requires in
    rw (← c.self.view_is) (c.self.invariant.2 ∙ sym (line_behind c.self.inside.given.items _ c.args.line (omega arith) there))
