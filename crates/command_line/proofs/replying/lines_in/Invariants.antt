use Rattle.std.proofs.Common.{map}
use Rattle.std.specs.List.{AllZip}
use Rattle.command_line.specs.Replies.{IsLineName}
use Rattle.command_line.proofs.replying.lines_in.Given as goal

abbrev pub invariant-loop-word : goal.invariant-loop-word
invariant-loop-word l =
    (goal.iterator-loop-word).can_next l.word-iterator × (goal.iterator-loop-word).is_finite l.word-iterator
    × AllZip IsLineName (map (λ word. word.now) l.yielded) l.lines.items
