use Rattle.crash_image.proofs.Totaling.{free_few}
use Rattle.crash_image.proofs.totals.next.Goals as goal

pub take-requires-clause-few : goal.take-requires-clause-few
take-requires-clause-few c =
    free_few c.args.events.now c.args.moment c.args.free.now.items c.requires.there c.requires.few c.requires.free
