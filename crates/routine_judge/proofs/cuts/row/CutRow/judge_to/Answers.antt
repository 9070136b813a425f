use Rattle.routine_judge.proofs.cuts.row.CutRow.judge_to.Goals as goal

pub returns-clause-ok : goal.returns-clause-ok
returns-clause-ok g c = rw (c.new-part.ensures.run, c.new-part.ensures.first, c.new-part.ensures.end) at c.judge_watched.ensures.ok

pub returns-clause-told : goal.returns-clause-told
returns-clause-told g c = rw (c.new-part.ensures.run, c.new-part.ensures.first, c.new-part.ensures.end) at c.judge_watched.ensures.told
