use Rattle.recovery.proofs.Serving.{access_bits}
use Rattle.recovery.proofs.Memories.{fits_its_line}
use Rattle.recovery.proofs.world.access_of.Goals as goal

pub returns-clause-bytes : goal.returns-clause-bytes
returns-clause-bytes c =
    access_bits c.args.address c.args.width c.requires.width (fits_its_line c.args.address c.args.width c.requires.width c.requires.from c.requires.aligned)
