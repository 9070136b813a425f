use Rattle.std.proofs.Common.{arith}
use Rattle.elf_file.specs.Forms.{format_at}
use Rattle.elf_file.proofs.Repeating.{goes_on, stops}
use Rattle.elf_file.proofs.lines.forms.formats_in.Goals as goal

pub returns-in_default : goal.returns-in_default
returns-in_default c =
    stops format_at c.loop-number.formats.items c.loop-number._number c.args.count c.loop-number.rest.now _ (omega arith) c.in_default.ensures c.loop-number.invariant

pub loop-number-preserved : goal.loop-number-preserved
loop-number-preserved c =
    rw c.in_ok-push.ensures.items
    (goes_on format_at c.loop-number.formats.items c.in-Some.format c.loop-number._number c.args.count c.loop-number.rest.now c.in-Some.behind.now _ (omega arith)
    c.in-Some.ensures c.loop-number.invariant)
