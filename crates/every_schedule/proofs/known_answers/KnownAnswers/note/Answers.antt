use Rattle.every_schedule.proofs.Knowing.{known_more}
use Rattle.routine_judge.specs.SequentialRuns.{notes_in}
use Rattle.every_schedule.proofs.known_answers.KnownAnswers.note.Goals as goal

pub returns-clause-kept : goal.returns-clause-kept
returns-clause-kept c =
    known_more (notes_in c.args.runs.now) c.args.self.now (record { right = c.insert.new.self }) c.in_ok-key.key c.args.precedence.now c.in_ok-right.right
    c.in_ok-insert.ensures.updates.0 c.in_ok-key.ensures c.in_ok-right.ensures c.requires
