use Rattle.std.proofs.Common.{◌≡◌, string_bytes}
use Rattle.command_line.specs.ToldAnswers.{told_answer, told_right}
use Rattle.command_line.proofs.Texts.{texts_below}
use Rattle.command_line.proofs.told_answers.answers_text.Given as goal

abbrev pub invariant-loop-right : goal.invariant-loop-right
invariant-loop-right l = string_bytes l.text ≡ texts_below (told_answer l.json l.fn.told.answer) (told_right l.json) l.right-items l.right-index
