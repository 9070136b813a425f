use Rattle.std.proofs.Common.{rules}
use Rattle.report.proofs.Addresses.{begun, offset_said}
use Rattle.report.proofs.address.offset_of.Goals as goal

pub returns-in-Some : goal.returns-in-Some
returns-in-Some c =
    offset_said c.args.word.now c.in_ok-name.name.now c.in_ok-name.behind.now _ c.in-Some.offset c.in_ok-name.ensures
    (begun c.in_ok-name.behind.now (search rules) (search rules) (search rules)) c.in-Some.ensures
