use Rattle.std.proofs.lemmas.Result.{on_ok_weaker}
use Rattle.assemble.proofs.ByteSteps.{both_words}
use Rattle.assemble.proofs.bytes.append_words.Goals as goal

pub returns-clause-ok : goal.returns-clause-ok
returns-clause-ok c = on_ok_weaker c.append_word-2.result (both_words _ _ _ _ _ c.in_ok-append_word.ensures.ok) c.append_word-2.ensures.ok
