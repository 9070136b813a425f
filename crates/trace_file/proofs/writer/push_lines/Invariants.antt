use Rattle.trace_file.proofs.Writing.{IsPushing}
use Rattle.trace_file.proofs.writer.push_lines.Given as goal

abbrev pub invariant-loop-index : goal.invariant-loop-index
invariant-loop-index l = IsPushing l.names l.events l.places l.initial.text.items l.index l.text.items
