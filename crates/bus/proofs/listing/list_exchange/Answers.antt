use Rattle.std.proofs.Common.{refl}
use Rattle.bus.proofs.Comparing.{is_next}
use Rattle.bus.proofs.listing.list_exchange.Goals as goal

pub returns-clause-ok : goal.returns-clause-ok
returns-clause-ok c =
    is_next c.args.seat.now c.args.count.now _ c.args.hart c.args.request c.args.reply c.args.runs.now c.add.new.self c.add-2.new.self
    c.number.new.self c.in_ok-exchange.exchange c.in_ok-exchange.ensures.there c.in_ok-exchange.ensures.asked c.in_ok-exchange.ensures.told refl
    c.in_ok-add.ensures.ok c.in_ok-add.ensures.made c.in_ok-add.ensures.numbers c.in_ok-add-2.ensures.ok c.in_ok-add-2.ensures.made
    c.in_ok-add-2.ensures.numbers c.in_ok-number.ensures.ok c.in_ok-number.ensures.schedule c.in_ok-number.ensures.made
