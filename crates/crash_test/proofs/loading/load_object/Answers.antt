use Rattle.std.proofs.Common.{rules}
use Rattle.crash_test.proofs.loading.load_object.Goals as goal

pub read_executable-requires : goal.read_executable-requires
read_executable-requires c = search rules

pub read_object-requires : goal.read_object-requires
read_object-requires c = search rules

pub assemble_source-requires : goal.assemble_source-requires
assemble_source-requires c = search rules
