use Rattle.report.proofs.TextWords.{first_all, first_more}
use Rattle.report.proofs.disassembly.words.words_of.Goals as goal

pub loop-index-preserved : goal.loop-index-preserved
loop-index-preserved c =
    let pushed = c.in_ok-push_word.ensures in
    first_more _ _ _ pushed.0 _ _ c.loop-index-test.true c.word_at-word.ensures pushed.1 c.loop-index.invariant pushed.2

pub returns-clause-all : goal.returns-clause-all
returns-clause-all c = first_all _ _ _ c.loop-index-test.false c.loop-index.invariant
