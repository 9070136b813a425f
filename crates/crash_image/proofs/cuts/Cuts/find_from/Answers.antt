use Rattle.std.proofs.Common.{Some, None}
use Rattle.crash_image.proofs.Least.{floors_below, least_cut_at}
use Rattle.crash_image.proofs.cuts.Cuts.find_from.Goals as goal

pub find_least-requires-clause-floors : goal.find_least-requires-clause-floors
find_least-requires-clause-floors c = floors_below c.self.inside.medium.now c.self.inside.events.now c.args.self.now c.args.floors.now c.self.invariant.2 c.self.view_is c.requires.floors

pub returns-in-Some-clause-ok : goal.returns-in-Some-clause-ok
returns-in-Some-clause-ok c =
    least_cut_at c.self.inside.medium.now c.args.medium.now c.self.inside.events.now c.args.self.now c.args.floors.now (Some c.from_entries.result)
    c.self.invariant.2 c.self.view_is c.requires.lines c.requires.floors
    (rw c.from_entries.ensures (rw c.in-Some.is at c.in_ok-entries.ensures.ok))

pub returns-in-None-clause-ok : goal.returns-in-None-clause-ok
returns-in-None-clause-ok c =
    least_cut_at c.self.inside.medium.now c.args.medium.now c.self.inside.events.now c.args.self.now c.args.floors.now None
    c.self.invariant.2 c.self.view_is c.requires.lines c.requires.floors (rw c.in-None.is at c.in_ok-entries.ensures.ok)
