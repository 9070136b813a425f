use Rattle.std.proofs.Common.{refl}
use Rattle.durability.proofs.Tellings.{fate_of_store}
use Rattle.durability.proofs.cut.lost_of.Goals as goal

pub returns-in-Some : goal.returns-in-Some
returns-in-Some c = record {
  line = refl;
  first = c.in-Some.ensures;
  cause = c.cause.ensures c.args.events.now c.args.entry.line c.in-Some.store
      (fate_of_store c.args.events.now c.args.entry.line c.in-Some.ensures.hart c.in-Some.store c.args.fates.now _ c.requires.fates c.in-Some.ensures.store);
}
