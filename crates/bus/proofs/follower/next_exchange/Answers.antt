use Rattle.bus.proofs.Foreign.{next_there, none_next, other_reply, other_request}
use Rattle.bus.proofs.follower.next_exchange.Goals as goal

pub returns-clause-there : goal.returns-clause-there
returns-clause-there c =
    next_there c.exchanges-exchanges.result.now c.args.seat.now.exchanges c.args.next _ c.exchanges-exchanges.ensures c.if-next-exchanges.false

pub returns-then-next-exchanges-clause-err : goal.returns-then-next-exchanges-clause-err
returns-then-next-exchanges-clause-err c =
    none_next c.exchanges-exchanges.result.now c.args.seat.now.exchanges c.args.next c.args.request c.args.reply c.exchanges-exchanges.ensures
    c.if-next-exchanges.true

pub returns-then-not-is_same_request-clause-err : goal.returns-then-not-is_same_request-clause-err
returns-then-not-is_same_request-clause-err c =
    other_request c.exchanges-exchanges.result.now c.args.seat.now.exchanges c.args.next _ c.args.request c.args.reply c.exchanges-exchanges.ensures
    c.if-next-exchanges.false c.if-not-is_same_request.ensures

pub returns-then-not-is_same_reply-clause-err : goal.returns-then-not-is_same_reply-clause-err
returns-then-not-is_same_reply-clause-err c =
    other_reply c.exchanges-exchanges.result.now c.args.seat.now.exchanges c.args.next _ c.args.request c.args.reply c.exchanges-exchanges.ensures
    c.if-next-exchanges.false c.if-not-is_same_reply.ensures

pub returns-clause-told : goal.returns-clause-told
returns-clause-told c = c.if-not-is_same_reply.ensures

pub returns-clause-asked : goal.returns-clause-asked
returns-clause-asked c = c.if-not-is_same_request.ensures
