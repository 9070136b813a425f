use Rattle.std.proofs.Common.{arith}
use Rattle.std.proofs.lemmas.Grind.{common_steps}
use Rattle.crash_image.proofs.Lined.{number_other, number_past}
use Rattle.crash_image.proofs.cut.number_of.Goals as goal

pub returns-in_default : goal.returns-in_default
returns-in_default c =
    grind (
      arith,
      common_steps,
      c.get.ensures.lookup,
      c.in_default.is,
      number_past c.args.entries.now c.args.line c.place_of.result c.place_of.ensures,
    )

pub returns-else-entry-line : goal.returns-else-entry-line
returns-else-entry-line c =
    grind (
      arith,
      common_steps,
      c.get.ensures.lookup,
      c.in-Some.is,
      c.in-Some.ensures.lookup,
      c.in-Some.entry-is,
      c.if-entry-line.false,
      number_other c.args.entries.now c.args.line c.place_of.result c.in-Some.entry.now c.requires c.place_of.ensures,
    )
