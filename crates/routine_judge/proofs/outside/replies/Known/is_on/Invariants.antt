use Rattle.std.proofs.Common.{◌≡◌, take}
use Rattle.routine_judge.proofs.OutsideAgreeing.{AgreesIn}
use Rattle.routine_judge.proofs.outside.replies.Known.is_on.Given as goal

abbrev pub invariant-loop-line : goal.invariant-loop-line
invariant-loop-line g l = (l.line-items ≡ l.self.reply.lines)
    × AgreesIn l.index.start l.index.events l.self.numbers (g.S.Source.medium l.medium) (take l.line-index l.line-items)
