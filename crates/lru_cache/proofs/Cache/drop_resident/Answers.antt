use Rattle.std.proofs.Common.{◌≡◌, length, ap, ◌∙◌, sym}
use Rattle.std.proofs.lemmas.List.{length-set}
use Rattle.lru_cache.specs.SlotMap.{SlotMap, slot_at}
use Rattle.lru_cache.specs.Order.{set_of}
use Rattle.lru_cache.specs.Cache.{CacheView, is_dirty}
use Rattle.lru_cache.proofs.InLines.{dropped_is, has_recent}
use Rattle.lru_cache.proofs.Keeps.{in_set, some_resident}
use Rattle.lru_cache.proofs.Tables.{by_slots}
use Rattle.lru_cache.proofs.Told.{resident_held}
use Rattle.lru_cache.proofs.Stays.{in_drop, room_for, there}
use Rattle.lru_cache.proofs.Cache.drop_resident.Goals as goal

pub slot_of-slot-requires : goal.slot_of-slot-requires
slot_of-slot-requires c = resident_held _ _ _ _ _ _ c.self.invariant.0 _ c.self.view_is c.args.line c.requires.resident

pub note_drop-requires-clause-slot : goal.note_drop-requires-clause-slot
note_drop-requires-clause-slot c =
    let held = resident_held _ _ _ _ _ _ c.self.invariant.0 _ c.self.view_is c.args.line c.requires.resident in
    rw c.slot_of-slot.ensures (sym (has_recent _ _ _ _ _ _ c.self.invariant.0 c.args.line held (set_of c.args.line)) ∙ (in_set _ c.self.invariant.0.held.sound c.args.line ∙ there _ _ _ _ _ _ c.self.invariant.0 c.args.line held))

pub release-requires-clause-held : goal.release-requires-clause-held
release-requires-clause-held c = resident_held _ _ _ _ _ _ c.self.invariant.0 _ c.self.view_is c.args.line c.requires.resident

pub release-requires-clause-room : goal.release-requires-clause-room
release-requires-clause-room c = room_for _ _ _ _ _ _ c.self.invariant.0 c.args.line (resident_held _ _ _ _ _ _ c.self.invariant.0 _ c.self.view_is c.args.line c.requires.resident)

pub overflow_sub-self : goal.overflow_sub-self
overflow_sub-self c = some_resident _ _ c.args.line c.self.invariant.0.held (there _ _ _ _ _ _ c.self.invariant.0 c.args.line (resident_held _ _ _ _ _ _ c.self.invariant.0 _ c.self.view_is c.args.line c.requires.resident))

pub invariant_of-self : goal.invariant_of-self
invariant_of-self c =
    let s = c.self.inside.slots in
    let wide : length c.release.new.self.lines ≡ length s.lines = ap (λ (m : SlotMap). length m.lines) c.release.ensures.changed ∙ length-set s.lines (slot_at s c.args.line) (length s.slots) in
    let most = ap (λ (m : SlotMap). m.most) c.release.ensures.changed in (
      rw (c.note_drop.ensures.changed, c.release.ensures.changed, c.slot_of-slot.ensures)
          (in_drop _ _ _ _ _ _ c.self.invariant.0 c.args.line (resident_held _ _ _ _ _ _ c.self.invariant.0 _ c.self.view_is c.args.line c.requires.resident) (ap (λ (w : CacheView). is_dirty w c.args.line) c.self.view_is ∙ c.requires.clean)
          (rw c.release.ensures.changed at c.release.ensures.sound)),
      (by_slots s c.release.new.self _ _ wide most c.self.invariant.1.0, by_slots s c.release.new.self _ _ wide most c.self.invariant.1.1),
    )

pub returns-clause-changed : goal.returns-clause-changed
returns-clause-changed c =
    rw (c.note_drop.ensures.changed, c.release.ensures.changed, c.slot_of-slot.ensures, ← c.self.view_is)
    (dropped_is _ _ _ _ _ _ c.self.invariant.0 c.args.line (resident_held _ _ _ _ _ _ c.self.invariant.0 _ c.self.view_is c.args.line c.requires.resident) (ap (λ (w : CacheView). is_dirty w c.args.line) c.self.view_is ∙ c.requires.clean))

pub returns-clause-sound : goal.returns-clause-sound
returns-clause-sound c = (invariant_of-self c).0.held.sound
