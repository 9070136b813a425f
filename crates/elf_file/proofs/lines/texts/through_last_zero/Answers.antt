use Rattle.std.proofs.Common.{arith}
use Rattle.elf_file.proofs.LineTexts.{first_byte, same_texts}
use Rattle.elf_file.proofs.lines.texts.through_last_zero.Goals as goal

pub loop-index-init : goal.loop-index-init
loop-index-init c = first_byte c.args.strings.now

pub returns : goal.returns
returns c = same_texts c.args.strings.now c.loop-index.end c.loop-index.index (omega arith) (omega arith) c.loop-index.invariant
