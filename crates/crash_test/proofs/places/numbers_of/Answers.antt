use Rattle.crash_test.proofs.OriginsOfFiles.{no_other_fault}
use Rattle.crash_test.proofs.places.numbers_of.Goals as goal

pub unreachable-requires : goal.unreachable-requires
unreachable-requires c =
    no_other_fault c.args.file.now c.requires.program.0 c.in-Err.fault c.requires.program.1 c.requires.source (c.in-Err.ensures.err c.in_default.not-Memory)
