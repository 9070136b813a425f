use Rattle.std.proofs.Common.{arith}
use Rattle.elf_file.proofs.Tables.{header_in_file}
use Rattle.elf_file.proofs.section_header.section_numbered.Goals as goal

pub read-requires : goal.read-requires
read-requires c = header_in_file c.args.file.now c.args.number (omega arith)
