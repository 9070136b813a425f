use Rattle.std.proofs.Common.{sym, arith}
use Rattle.std.proofs.lemmas.List.{length-take-le, take_all}
use Rattle.report.proofs.answer.shown.Goals as goal

pub slice_bounds-result-end : goal.slice_bounds-result-end
slice_bounds-result-end c = sym (length-take-le 64 c.args.answer.now (omega arith))

pub returns-else-answer-gt-SHOWN_BYTES : goal.returns-else-answer-gt-SHOWN_BYTES
returns-else-answer-gt-SHOWN_BYTES c = sym (take_all 64 c.args.answer.now (omega arith))
