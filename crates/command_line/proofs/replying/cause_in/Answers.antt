use Rattle.text.specs.Words.{words}
use Rattle.command_line.proofs.Replies.{no_loaded}
use Rattle.command_line.proofs.replying.cause_in.Goals as goal

pub returns-in-None-clause-says : goal.returns-in-None-clause-says
returns-in-None-clause-says c =
    no_loaded c.args.names.now (words c.args.rest.now) c.in-Some.word.now (words c.in-Some.behind.now) c.in-Some.ensures.words
    (rw c.in-None.is at c.in_ok-loaded.ensures.says)
