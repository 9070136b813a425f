use Rattle.report.proofs.Addresses.{by_line}
use Rattle.report.proofs.address.named_address.Goals as goal

pub returns-in-Some : goal.returns-in-Some
returns-in-Some c =
    by_line c.args.lines.now.rows c.args.functions.now c.args.word.now c.in-Some.file.now c.in-Some.digits.now c.line_address.result
    c.in-Some.ensures c.line_address.ensures
