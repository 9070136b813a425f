use Rattle.std.proofs.Common.{◌+◌, length, sym}
use Rattle.std.proofs.lemmas.List.{take_rest}
use Rattle.plan.proofs.Lining.{filled_text, last_line, line_ends}
use Rattle.plan.proofs.lines.first_line.Goals as goal

pub returns-in-Some-clause-lines : goal.returns-in-Some-clause-lines
returns-in-Some-clause-lines c =
    let text = c.args.text.now in
    rw (take_rest text (c.in-Some.end + 1)) (line_ends text c.in-Some.end (sym c.in-Some.ensures))

pub returns-in-None-clause-lines : goal.returns-in-None-clause-lines
returns-in-None-clause-lines c =
    let text = c.args.text.now in
    rw (take_rest text (length text)) (last_line text (sym c.in-None.ensures) (filled_text text _ c.is_empty.ensures c.if-is_empty.false))
