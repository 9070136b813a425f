use Rattle.std.proofs.Common.{rules, ◌≡◌, ◌++◌, ◌∷◌, []}
use Rattle.bus.proofs.Crews.{closed_quiet}
use Rattle.bus.proofs.together.close_word.Goals as goal

pub returns : goal.returns
returns c =
    let pushed : c.push.new.self.items ≡ c.args.stops.items ++ c.args.mine ∷ [] = search rules in
    closed_quiet c.args.stops.items c.args.mine c.push.new.self.items c.close.result pushed c.close.ensures.raised c.close.ensures.seen
