-- The codes of each family's rows, read off.
use Rattle.std.proofs.Common.{refl}
use Rattle.arguments.specs.Codes.{executables, operations, runs, sources, traces, traps, volumes, words}
use Rattle.arguments.proofs.codes.looking.all_have_meanings.Goals as goal

pub returns : goal.returns
unfolding sources executables traces runs volumes operations traps words
returns c = refl
