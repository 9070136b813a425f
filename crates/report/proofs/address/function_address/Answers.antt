use Rattle.report.proofs.Addresses.{by_offset}
use Rattle.report.proofs.address.function_address.Goals as goal

pub returns-in-Some : goal.returns-in-Some
returns-in-Some c =
    let said = c.in-Some.ensures in
    by_offset c.args.functions.now c.args.word.now c.in-Some.name.now said.0 c.address_behind.result said.1 (c.address_behind.ensures said.0 said.2)
