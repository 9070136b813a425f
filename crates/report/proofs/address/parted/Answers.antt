use Rattle.std.proofs.Common.{◌≡◌, None, rules, sym}
use Rattle.std.proofs.lemmas.List.{take_rest}
use Rattle.report.proofs.Parts.{parted_last, parted_none}
use Rattle.report.specs.Addresses.{parted, two_parts}
use Rattle.report.proofs.address.parted.Goals as goal

pub returns-in-Some : goal.returns-in-Some
returns-in-Some c =
    let word = c.args.word.now in
    let found = parted_last c.args.separator word c.in-Some.index (search rules) (search rules) (search rules) in
    rw (found, take_rest)

pub returns-in-None : goal.returns-in-None
returns-in-None c =
    let none : parted c.args.separator c.args.word.now ≡ None = parted_none c.args.separator c.args.word.now (search rules) in
    sym none
