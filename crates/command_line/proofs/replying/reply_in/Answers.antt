use Rattle.text.specs.Words.{words}
use Rattle.command_line.proofs.Replies.{by_answer, by_cause}
use Rattle.command_line.proofs.replying.reply_in.Goals as goal

pub returns-in-Some-clause-says : goal.returns-in-Some-clause-says
returns-in-Some-clause-says c =
    by_answer c.args.names.now (words c.args.line.now) (words c.in-Some.rest.now) c.answer_in.result c.in-Some.ensures.some c.answer_in.ensures.says

pub returns-in-Some-after_keyword-clause-says : goal.returns-in-Some-after_keyword-clause-says
returns-in-Some-after_keyword-clause-says c =
    by_cause c.args.names.now (words c.args.line.now) (words c.in-Some-after_keyword.rest.now) c.cause_in.result c.in-Some-after_keyword.ensures.some
    c.cause_in.ensures.says
