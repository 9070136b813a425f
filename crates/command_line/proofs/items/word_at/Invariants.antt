use Rattle.std.proofs.Common.{◌≡◌, ◌-◌}
use Rattle.std.specs.Prelude.{slice_get}
use Rattle.text.specs.Words.{words_of_lines}
use Rattle.command_line.proofs.items.word_at.Given as goal

abbrev pub invariant-loop : goal.invariant-loop
invariant-loop l = slice_get (words_of_lines l.text) l.place ≡ slice_get (words_of_lines l.rest) (l.place - l.counter)
