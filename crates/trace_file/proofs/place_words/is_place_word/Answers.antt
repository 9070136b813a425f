use Rattle.std.proofs.lemmas.Bool.{both_ways}
use Rattle.trace_file.proofs.PlaceLemmas.{no_name, value_decides}
use Rattle.trace_file.proofs.place_words.is_place_word.Goals as goal

pub returns-then-is_name : goal.returns-then-is_name
returns-then-is_name c =
    value_decides c.args.word.now _ _ _ c.in-Some.ensures.some (c.is_name.ensures.0 c.if-is_name.true) c.is_value.ensures

pub returns-else-is_name : goal.returns-else-is_name
returns-else-is_name c =
    no_name c.args.word.now _ _ c.in-Some.ensures.some (λ named. both_ways _ c.if-is_name.false (c.is_name.ensures.1 named))
