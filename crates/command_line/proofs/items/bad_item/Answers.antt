-- Each word was an item.
use Rattle.std.proofs.Common.{◌≡◌, [], arith, rules}
use Rattle.std.proofs.lemmas.Grind.{common_steps}
use Rattle.text.specs.Words.{words_of_lines}
use Rattle.command_line.proofs.FirstBad.{all_passed}
use Rattle.command_line.proofs.items.bad_item.Goals as goal

pub returns : goal.returns
returns c =
    let ended : words_of_lines c.loop-word.rest.now ≡ [] = first_of (search rules, grind arith, grind (arith, common_steps)) in
    all_passed c.args.text.now c.loop-word.rest.now c.loop-word.passed c.loop-word.invariant.0 ended
