use Rattle.bus.proofs.lock.Bus.finish.Goals as goal

pub returns-clause-ok : goal.returns-clause-ok
returns-clause-ok c = rw (← c.self.view_is, ← c.deref_mut.ensures.value) c.finish_seats.ensures.ok

pub returns-clause-err : goal.returns-clause-err
returns-clause-err c = rw (← c.self.view_is, ← c.deref_mut.ensures.value) c.finish_seats.ensures.err
