use Rattle.std.proofs.Common.{length, lit<}
use Rattle.std.proofs.lemmas.Iterator.Consumers.{YieldsList-at, YieldsList-end, YieldsList-turn}
use Rattle.std.proofs.lemmas.Iterator.Splits.{YieldsList-from_str_split}
use Rattle.text.specs.Grammar.{words}
use Rattle.command_line.proofs.Replies.{one_more_named, unnamed_at}
use Rattle.command_line.proofs.replying.lines_in.Goals as goal

pub returns-in_default : goal.returns-in_default
returns-in_default c =
    let split = YieldsList-at c.into_iter-word-iterator.ensures.into_iter_gives
    (YieldsList-from_str_split 44 c.args.text.now (lit< tt) c.split-word-items.ensures.text c.split-word-items.ensures.has_more c.split-word-items.ensures.pattern) in
    let turn = YieldsList-turn split c.loop-word.yielded _ c.loop-word.yielded_by _ _ c.in-Some.word c.in-Some.is c.next.ensures.steps in
    unnamed_at (words c.args.text.now) (length c.loop-word.yielded) c.in-Some.word.now turn.0 turn.1 c.in_default.ensures.none

pub loop-word-preserved : goal.loop-word-preserved
loop-word-preserved c = (
  tt,
  tt,
  rw c.in_ok-push.ensures.items
      (one_more_named c.loop-word.yielded c.loop-word.lines.items c.in-Some.word c.in-Some-line_in.line c.loop-word.invariant.2 c.in-Some-line_in.ensures.some),
)

pub returns : goal.returns
returns c =
    let split = YieldsList-at c.into_iter-word-iterator.ensures.into_iter_gives
    (YieldsList-from_str_split 44 c.args.text.now (lit< tt) c.split-word-items.ensures.text c.split-word-items.ensures.has_more c.split-word-items.ensures.pattern) in
    let end = YieldsList-end split c.loop-word.yielded _ c.loop-word.yielded_by _ _ c.in-None.is c.next.ensures.steps in
    rw (← end.0) c.loop-word.invariant.2
