use Rattle.std.proofs.Common.{arith, ◌<◌, length, rules}
use Rattle.lru_cache.proofs.InLines.{written_is}
use Rattle.lru_cache.proofs.Told.{resident_held, slot_low}
use Rattle.lru_cache.proofs.Stays.{in_write_back}
use Rattle.lru_cache.proofs.Cache.note_write_back.Goals as goal

pub slot_of-slot-requires : goal.slot_of-slot-requires
slot_of-slot-requires c = resident_held _ _ _ _ _ _ c.self.invariant.0 _ c.self.view_is c.args.line c.requires

pub index_mut-requires : goal.index_mut-requires
index_mut-requires c =
    let low : c.slot_of-slot.result < length c.self.inside.leaving.items =
    rw c.self.invariant.0.flagged (slot_low _ _ _ _ _ _ c.self.invariant.0 _ c.self.view_is c.args.line _ (resident_held _ _ _ _ _ _ c.self.invariant.0 _ c.self.view_is c.args.line c.requires) c.slot_of-slot.ensures) in
    search rules

pub note_write_back-requires : goal.note_write_back-requires
note_write_back-requires c =
    omega (arith, c.self.invariant.0.nodes, c.self.invariant.0.slots.few, slot_low _ _ _ _ _ _ c.self.invariant.0 _ c.self.view_is c.args.line _ (resident_held _ _ _ _ _ _ c.self.invariant.0 _ c.self.view_is c.args.line c.requires) c.slot_of-slot.ensures)

pub invariant_of-self : goal.invariant_of-self
invariant_of-self c =
    (rw (c.note_write_back.ensures.changed, c.slot_of-slot.ensures) (in_write_back _ _ _ _ _ _ c.self.invariant.0 c.args.line (resident_held _ _ _ _ _ _ c.self.invariant.0 _ c.self.view_is c.args.line c.requires)), c.self.invariant.1)

pub returns-clause-changed : goal.returns-clause-changed
returns-clause-changed c =
    rw (c.note_write_back.ensures.changed, c.slot_of-slot.ensures, ← c.self.view_is) (written_is _ _ _ _ _ _ c.self.invariant.0 c.args.line (resident_held _ _ _ _ _ _ c.self.invariant.0 _ c.self.view_is c.args.line c.requires))

pub returns-clause-sound : goal.returns-clause-sound
returns-clause-sound c = (invariant_of-self c).0.held.sound
