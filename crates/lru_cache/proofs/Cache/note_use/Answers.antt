use Rattle.std.proofs.Common.{arith}
use Rattle.lru_cache.proofs.Told.{resident_held, slot_low, touched_is}
use Rattle.lru_cache.proofs.Stays.{in_use}
use Rattle.lru_cache.proofs.Cache.note_use.Goals as goal

pub slot_of-slot-requires : goal.slot_of-slot-requires
slot_of-slot-requires c = resident_held _ _ _ _ _ _ c.self.invariant.0 _ c.self.view_is c.args.line c.requires

pub note_use-requires-clause-slot : goal.note_use-requires-clause-slot
note_use-requires-clause-slot c =
    omega (arith, c.self.invariant.0.nodes, c.self.invariant.0.slots.few, slot_low _ _ _ _ _ _ c.self.invariant.0 _ c.self.view_is c.args.line _ (resident_held _ _ _ _ _ _ c.self.invariant.0 _ c.self.view_is c.args.line c.requires) c.slot_of-slot.ensures)

pub invariant_of-self : goal.invariant_of-self
invariant_of-self c =
    (rw (c.note_use.ensures.changed, c.slot_of-slot.ensures) (in_use _ _ _ _ _ _ c.self.invariant.0 c.args.line (resident_held _ _ _ _ _ _ c.self.invariant.0 _ c.self.view_is c.args.line c.requires)), c.self.invariant.1)

pub returns-clause-changed : goal.returns-clause-changed
returns-clause-changed c = λ bytes is.
    rw (c.note_use.ensures.changed, c.slot_of-slot.ensures) (touched_is _ _ _ _ _ _ c.self.invariant.0 _ c.self.view_is c.args.line (resident_held _ _ _ _ _ _ c.self.invariant.0 _ c.self.view_is c.args.line c.requires) bytes is)

pub returns-clause-sound : goal.returns-clause-sound
returns-clause-sound c = (invariant_of-self c).0.held.sound
