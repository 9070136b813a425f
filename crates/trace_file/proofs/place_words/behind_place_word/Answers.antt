use Rattle.std.proofs.lemmas.Bool.{both_ways}
use Rattle.trace_file.proofs.PlaceLemmas.{no_place_word}
use Rattle.trace_file.proofs.place_words.behind_place_word.Goals as goal

pub returns-else-is_place_word-clause-none : goal.returns-else-is_place_word-clause-none
returns-else-is_place_word-clause-none c =
    no_place_word c.args.text.now _ _ c.in_ok-word.ensures.some (λ word. both_ways _ c.if-is_place_word.false (c.is_place_word.ensures.1 word))
