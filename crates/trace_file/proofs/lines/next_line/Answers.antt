use Rattle.std.proofs.lemmas.Bool.{both_ways}
use Rattle.trace_file.proofs.LineLemmas.{entry_misnumbered, event_read, event_refused, last_read}
use Rattle.trace_file.proofs.lines.next_line.Goals as goal

pub returns-then-is_number-clause-ok : goal.returns-then-is_number-clause-ok
returns-then-is_number-clause-ok c =
    last_read c.args.count c.args.text.now c.in-Some.rest.now c.in-Some.total c.in-Some.ensures.some (c.is_number.ensures.yes c.if-is_number.true)

pub returns-in-Ok-clause-ok : goal.returns-in-Ok-clause-ok
returns-in-Ok-clause-ok c =
    event_read c.args.count c.args.text.now c.in-Some-entry_line.line c.in-Ok.event c.in-Some-entry_line.ensures.some c.in-Ok.is
    (c.is_number-2.ensures.yes c.if-is_number-2.true)

pub returns-in-Err-clause-err : goal.returns-in-Err-clause-err
returns-in-Err-clause-err c =
    event_refused c.args.count c.args.text.now c.in-Some-entry_line.line c.in-Err.code c.in-Some-entry_line.ensures.some c.in-Err.is
    (c.is_number-2.ensures.yes c.if-is_number-2.true)

pub returns-else-is_number-2-clause-err : goal.returns-else-is_number-2-clause-err
returns-else-is_number-2-clause-err c =
    entry_misnumbered c.args.count c.args.text.now c.in-Some-entry_line.line c.in-Some-entry_line.ensures.some
    (c.is_number-2.ensures.no (λ holds. both_ways _ c.if-is_number-2.false holds))
