use Rattle.program_tests.proofs.calls.verdicts.verdict_on_part.Goals as goal

pub invariant_of-work : goal.invariant_of-work
invariant_of-work g c = record { order = c.last_of.ensures; some = c.requires.0; few = c.requires.1 }
