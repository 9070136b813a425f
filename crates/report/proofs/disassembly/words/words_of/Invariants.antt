use Rattle.report.proofs.TextWords.{AreFirst}
use Rattle.report.proofs.disassembly.words.words_of.Given as goal

abbrev pub invariant-loop-index : goal.invariant-loop-index
invariant-loop-index l = AreFirst l.text l.index l.words.items
