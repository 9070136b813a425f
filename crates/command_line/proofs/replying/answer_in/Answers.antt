use Rattle.text.specs.Words.{words}
use Rattle.command_line.proofs.Replies.{no_loads}
use Rattle.command_line.proofs.replying.answer_in.Goals as goal

pub returns-in-None-clause-says : goal.returns-in-None-clause-says
returns-in-None-clause-says c =
    no_loads c.args.names.now (words c.args.rest.now) c.digits_in.result.0.now (words c.digits_in.result.1.now) c.digits_in.ensures
    (rw c.in-None.is at c.in_ok-loaded.ensures.says)
