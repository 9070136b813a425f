-- The reply names the lines that are loaded.
use Rattle.verdict_tests.proofs.images.asked.reply_to.Goals as goal

pub returns : goal.returns
returns c = λ line is. c.in_ok-lines.ensures line (rw c.new.ensures.lines at is)
