use Rattle.bus.proofs.driving.drive.Goals as goal

pub returns : goal.returns
returns g c = c.drive_on-refused.ensures c.of.result c.of.ensures.rest c.of.ensures.within
