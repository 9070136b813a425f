use Rattle.bus.proofs.ending.gather.Goals as goal

pub returns-clause-err : goal.returns-clause-err
returns-clause-err c =
    rw (← c.deref_mut.ensures.value) c.gather_seats.ensures.err
