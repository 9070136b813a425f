use Rattle.std.proofs.Common.{rules}
use Rattle.trace_file.proofs.Spacing.{all_spaced}
use Rattle.trace_file.proofs.spaced.spaced_words.Goals as goal

pub returns : goal.returns
returns c =
    all_spaced c.args.with_steps c.args.place.now c.words.rest.now c.words.words.items c.push_word-2.new.words.items (search rules) c.words.invariant (search rules)
