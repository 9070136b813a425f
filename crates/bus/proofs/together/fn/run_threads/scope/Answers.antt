use Rattle.bus.proofs.Crews.{have_ended}
use Rattle.bus.proofs.together.fn.run_threads.scope.Goals as goal

pub returns : goal.returns
returns g c =
    have_ended c.captures.word.now.table c.captures.seats.items c.start_all.new.self.children.items c.start_all.new.self.ran.mine c.join_all.result.mine
    c.start_all.new.self.ran.is_whole c.join_all.result.lowest c.join_all.result.is_whole c.join_all.result.seats.items c.join_all.result.stops.items c.start_all.ensures.crew
    c.join_all.ensures.mine (c.join_all.ensures.joined c.captures.word.now.table c.start_all.ensures.crew.words)
