use Rattle.lru_cache.proofs.Victims.{room_evicted}
use Rattle.lru_cache.proofs.Cache.make_room.Goals as goal

pub returns-in-Some-clause-room : goal.returns-in-Some-clause-room
returns-in-Some-clause-room c = λ _.
    rw c.evict.ensures.changed (room_evicted _ c.victim.ensures.sound c.in-Some.victim c.in-Some.ensures.resident)
