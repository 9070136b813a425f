use Rattle.std.proofs.Common.{rules}
use Rattle.program.proofs.object.Object.read.Goals as goal
use Rattle.program.proofs.Files.{one_object}

pub returns-clause-file : goal.returns-clause-file
returns-clause-file c object file = (one_object c.args.bytes.now c.new.result object (search rules) file, tt)
