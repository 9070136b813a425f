use Rattle.std.specs.Prelude.{drop}
use Rattle.routine_judge.proofs.Keepings.{KeepsPart}
use Rattle.routine_judge.proofs.cuts.opening.keep_part.Given as goal

abbrev pub invariant-loop-question : goal.invariant-loop-question
invariant-loop-question l = KeepsPart l.fn.images l.images l.questions (drop l.question-index l.questions) l.fn.others.items l.others.items
