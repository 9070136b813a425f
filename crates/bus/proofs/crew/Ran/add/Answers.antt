use Rattle.bus.proofs.Crews.{joined_more}
use Rattle.bus.proofs.crew.Ran.add.Goals as goal

pub returns-clause-joined : goal.returns-clause-joined
returns-clause-joined c = λ table begun first b joined driven place.
    joined_more table begun first b c.args.self.now.seats.items c.keep_seat-is_kept.new.seats.items c.args.self.now.stops.items c.keep_stop-is_placed.new.stops.items
    c.args.self.now.lowest c.note_any.new.lowest c.args.self.now.is_whole c.are_both-self.result c.keep_seat-is_kept.result c.keep_stop-is_placed.result c.are_both.result
    c.hart.result c.args.driven.seat c.args.driven.stop c.args.driven.refused c.note_any.ensures c.keep_seat-is_kept.ensures c.keep_stop-is_placed.ensures
    c.are_both.ensures c.are_both-self.ensures joined driven place
