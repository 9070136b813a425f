use Rattle.std.proofs.Common.{map}
use Rattle.std.specs.List.{AllZip}
use Rattle.text.specs.Grammar.{IsEntry}
use Rattle.text.proofs.image_name.reader.entries.Given as goal

abbrev pub invariant-loop-word : goal.invariant-loop-word
invariant-loop-word l =
    (goal.iterator-loop-word).can_next l.word-iterator × (goal.iterator-loop-word).is_finite l.word-iterator
    × AllZip IsEntry (map (λ word. word.now) l.yielded) l.entries.items
