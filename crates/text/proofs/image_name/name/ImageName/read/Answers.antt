use Rattle.text.specs.declared.image_name.name.ImageName.TheVariants.{Cut, Number}
use Rattle.text.proofs.Entries.{number_is}
use Rattle.text.proofs.OneReading.{one_name}
use Rattle.text.proofs.image_name.name.ImageName.read.Goals as goal

pub returns-in-Some-clause-only : goal.returns-in-Some-clause-only
returns-in-Some-clause-only c = λ other is.
    one_name c.args.text.now other (Number c.in-Some.number) is
    (number_is c.args.text.now c.as_bytes.result.now c.in-Some.number c.as_bytes.ensures.value c.in-Some.ensures)

pub returns-in-Some-2-clause-only : goal.returns-in-Some-2-clause-only
returns-in-Some-2-clause-only c = λ other is.
    one_name c.args.text.now other (Cut c.in-Some-2.cut) is (rw c.in-Some-2.is at c.in_ok-cut.ensures)
