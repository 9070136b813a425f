use Rattle.text.specs.Words.{words}
use Rattle.command_line.proofs.Replies.{by_list}
use Rattle.command_line.proofs.replying.loads_in.Goals as goal

pub returns-in-Some-only_word-clause-says : goal.returns-in-Some-only_word-clause-says
returns-in-Some-only_word-clause-says c =
    by_list (λ ranks. ranks.items) c.args.names.now (words c.args.rest.now) (words c.in-Some.list.now) c.in-Some-only_word.word.now c.list_in.result
    c.in-Some.ensures.some c.in-Some-only_word.ensures.some c.list_in.ensures.says
