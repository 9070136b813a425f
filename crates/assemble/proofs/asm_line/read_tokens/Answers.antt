use Rattle.assemble.proofs.LineWords.{line_of_kinds}
use Rattle.assemble.proofs.asm_line.read_tokens.Goals as goal

pub returns-clause-ok : goal.returns-clause-ok
returns-clause-ok c = rw (line_of_kinds _ _ c.in_ok-lexemes.ensures.found, ← c.deref.ensures.value) c.line_at.ensures.ok

pub returns-clause-err : goal.returns-clause-err
returns-clause-err c = rw (line_of_kinds _ _ c.in_ok-lexemes.ensures.found, ← c.deref.ensures.value) c.line_at.ensures.err
