use Rattle.crash_test.proofs.OnePrograms.{one_program}
use Rattle.crash_test.proofs.loading.one_program.Goals as goal

pub returns : goal.returns
returns c = one_program c.one_answer.ensures.object
