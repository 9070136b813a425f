use Rattle.std.proofs.Common.{◌≡◌, replicate}
use Rattle.machine.proofs.text_copy.starting_copies.Given as goal

abbrev pub invariant-loop : goal.invariant-loop
invariant-loop l = l.made.items ≡ replicate l.counter l.text
