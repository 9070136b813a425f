use Rattle.elf_file.proofs.Loading.{within_limits}
use Rattle.elf_file.proofs.executable.load.Goals as goal

pub new-requires : goal.new-requires
new-requires c = rw (c.in_ok-text.ensures, c.in_ok-static_data.ensures) (within_limits c.args.file.now c.requires.headers)
