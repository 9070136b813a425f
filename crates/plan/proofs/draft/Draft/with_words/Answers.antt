use Rattle.plan.proofs.Refusals.{accepted_operation, asked_operations, refused_inodes, refused_journals, refused_operation, refused_pages, refused_start}
use Rattle.plan.proofs.draft.Draft.with_words.Goals as goal

pub returns-in-None-clause-err : goal.returns-in-None-clause-err
returns-in-None-clause-err c = refused_start _ _ _ c.in-Empty.is c.in-None.ensures.none c.with_inodes.ensures.err c.with_inodes.ensures.code

pub returns-in-Opened-clause-err : goal.returns-in-Opened-clause-err
returns-in-Opened-clause-err c = refused_inodes _ _ _ _ c.in-Opened.is c.with_inodes-in-Opened.ensures.err c.with_inodes-in-Opened.ensures.code

pub returns-in-Counted-clause-err : goal.returns-in-Counted-clause-err
returns-in-Counted-clause-err c = refused_pages _ _ _ _ _ c.in-Counted.is c.with_pages.ensures.err c.with_pages.ensures.code

pub returns-in-None-count_line-clause-err : goal.returns-in-None-count_line-clause-err
returns-in-None-count_line-clause-err c = refused_journals _ _ _ _ _ c.in-Paged.is c.in-None-count_line.ensures.none

pub returns-in-Whole-clause-err : goal.returns-in-Whole-clause-err
returns-in-Whole-clause-err c = refused_operation _ _ _ _ c.in-Whole.is c.add_operation.ensures.err

pub returns-in-Whole-clause-ok : goal.returns-in-Whole-clause-ok
returns-in-Whole-clause-ok c = accepted_operation _ _ _ _ c.in-Whole.is c.add_operation.ensures.ok

pub returns-in-Whole-clause-memory : goal.returns-in-Whole-clause-memory
returns-in-Whole-clause-memory c = asked_operations _ _ _ _ c.in-Whole.is c.add_operation.ensures.memory
