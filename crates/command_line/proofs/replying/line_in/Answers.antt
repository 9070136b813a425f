use Rattle.command_line.proofs.Replies.{if_none, other_letter}
use Rattle.command_line.proofs.replying.line_in.Goals as goal

pub returns-in_err-strip_prefix-clause-none : goal.returns-in_err-strip_prefix-clause-none
returns-in_err-strip_prefix-clause-none c = if_none c.from_residual.result _ (other_letter c.args.word.now c.in_err-strip_prefix.ensures.cases)
