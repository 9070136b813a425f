use Rattle.std.proofs.Common.{◌≡◌, arith, sym}
use Rattle.std.proofs.lemmas.Bool.Decides.{nat_tests}
use Rattle.index_list.specs.Links.{next_on}
use Rattle.index_list.proofs.Changes.{Opened, opened, read_next, contains_is}
use Rattle.index_list.proofs.Members.{has_beyond}
use Rattle.index_list.proofs.ring.Ring.contains.Goals as goal

pub returns-then-i-self : goal.returns-then-i-self
returns-then-i-self c =
    let o : Opened c.args.self.now c.self.inside.links.end c.self.inside.links.next.items c.self.inside.links.prev.items = opened _ _ _ _ _ _ _ _ c.self.view_is c.self.invariant in
    let read : c.index.result.now ≡ next_on c.self.inside.links.end c.self.inside.links.end c.args.self.now.items c.args.i = read_next _ _ _ _ o _ _ (omega (arith, c.if-i-self.true)) c.index.ensures in
    rw read (sym (contains_is _ _ _ _ o _ c.if-i-self.true))

pub returns-else-i-self : goal.returns-else-i-self
returns-else-i-self c =
    let o : Opened c.args.self.now c.self.inside.links.end c.self.inside.links.next.items c.self.inside.links.prev.items = opened _ _ _ _ _ _ _ _ c.self.view_is c.self.invariant in
    grind (arith, nat_tests, has_beyond c.self.inside.links.end c.args.i c.args.self.now.items o.ring.below)
