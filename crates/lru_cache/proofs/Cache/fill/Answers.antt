use Rattle.std.proofs.Common.{◌≡◌, ◌+◌, ◌<◌, ◌≤◌, length, ap, ◌∙◌, sym, arith, rules}
use Rattle.std.proofs.lemmas.List.{length-set}
use Rattle.lru_cache.specs.SlotMap.{SlotMap}
use Rattle.lru_cache.specs.Order.{resident_count}
use Rattle.lru_cache.specs.Cache.{CacheView}
use Rattle.lru_cache.proofs.InLines.{filled_is}
use Rattle.lru_cache.proofs.Tables.{by_slots, free_seen}
use Rattle.lru_cache.proofs.Told.{lines_at, resident_at, count_at, capacity_at}
use Rattle.lru_cache.proofs.Stays.{in_fill, room_to_add}
use Rattle.lru_cache.proofs.Cache.fill.Goals as goal

pub see_free-requires-clause-room : goal.see_free-requires-clause-room
see_free-requires-clause-room c =
    room_to_add _ _ _ _ _ _ c.self.invariant.0 c.args.line (omega (arith, lines_at _ _ _ _ _ _ c.self.invariant.0 _ c.self.view_is)) (sym (resident_at _ _ _ _ _ _ c.self.invariant.0 _ c.self.view_is c.args.line) ∙ c.requires.absent)
    (omega (arith, ap (λ (w : CacheView). resident_count w.orders) c.self.view_is, capacity_at _ _ _ _ _ _ c.self.invariant.0 _ c.self.view_is))

pub take-slot-requires-clause-line : goal.take-slot-requires-clause-line
take-slot-requires-clause-line c =
    let h = (c.see_free.ensures.stays _ _ _ c.self.invariant.0).0 in
    let e = (c.see_free.ensures.stays _ _ _ c.self.invariant.0).1 ∙ c.self.view_is in
    omega (arith, lines_at _ _ _ _ _ _ h _ e)

pub take-slot-requires-clause-none : goal.take-slot-requires-clause-none
take-slot-requires-clause-none c =
    let h = (c.see_free.ensures.stays _ _ _ c.self.invariant.0).0 in
    let e = (c.see_free.ensures.stays _ _ _ c.self.invariant.0).1 ∙ c.self.view_is in
    sym (resident_at _ _ _ _ _ _ h _ e c.args.line) ∙ c.requires.absent

pub take-slot-requires-clause-free : goal.take-slot-requires-clause-free
take-slot-requires-clause-free c = free_seen c.self.inside.slots c.see_free.new.slots c.see_free.ensures.changed

pub index_mut-requires : goal.index_mut-requires
index_mut-requires c =
    let h = (c.see_free.ensures.stays _ _ _ c.self.invariant.0).0 in
    let low : c.take-slot.result < length c.see_free.new.copies.items = omega (arith, h.copied, c.take-slot.ensures.below) in
    search rules

pub index_mut-requires-2 : goal.index_mut-requires-2
index_mut-requires-2 c =
    let h = (c.see_free.ensures.stays _ _ _ c.self.invariant.0).0 in
    let low : c.take-slot.result < length c.see_free.new.leaving.items = omega (arith, h.flagged, c.take-slot.ensures.below) in
    search rules

pub note_use-requires-clause-slot : goal.note_use-requires-clause-slot
note_use-requires-clause-slot c =
    let h = (c.see_free.ensures.stays _ _ _ c.self.invariant.0).0 in
    omega (arith, h.nodes, h.slots.few, c.take-slot.ensures.below)

pub overflow_add-self : goal.overflow_add-self
overflow_add-self c =
    let room : c.self.inside.resident + 1 ≤ c.self.inside.capacity = omega (arith, count_at _ _ _ _ _ _ c.self.invariant.0 _ c.self.view_is, capacity_at _ _ _ _ _ _ c.self.invariant.0 _ c.self.view_is, c.requires.room) in
    search rules

pub invariant_of-self : goal.invariant_of-self
invariant_of-self c =
    let s = c.see_free.new.slots in
    let wide : length c.take-slot.new.self.lines ≡ length s.lines = ap (λ (m : SlotMap). length m.lines) c.take-slot.ensures.changed ∙ length-set s.lines c.take-slot.result c.args.line in
    let most = ap (λ (m : SlotMap). m.most) c.take-slot.ensures.changed in
    let h = (c.see_free.ensures.stays _ _ _ c.self.invariant.0).0 in
    let e = (c.see_free.ensures.stays _ _ _ c.self.invariant.0).1 ∙ c.self.view_is in (
      rw (c.note_use.ensures.changed, c.take-slot.ensures.changed)
          (in_fill _ _ _ _ _ _ h c.args.line c.take-slot.result c.args.bytes (omega (arith, lines_at _ _ _ _ _ _ h _ e)) (sym (resident_at _ _ _ _ _ _ h _ e c.args.line) ∙ c.requires.absent)
          c.take-slot.ensures.below c.take-slot.ensures.was_free (rw c.take-slot.ensures.changed at c.take-slot.ensures.sound) (free_seen c.self.inside.slots c.see_free.new.slots c.see_free.ensures.changed)
          (omega (arith, ap (λ (w : CacheView). resident_count w.orders) e, capacity_at _ _ _ _ _ _ h _ e)) c.requires.whole),
      (by_slots s c.take-slot.new.self _ _ wide most c.see_free.ensures.tables.0, by_slots s c.take-slot.new.self _ _ wide most c.see_free.ensures.tables.1),
    )

pub returns-clause-changed : goal.returns-clause-changed
returns-clause-changed c =
    let h = (c.see_free.ensures.stays _ _ _ c.self.invariant.0).0 in
    let e = (c.see_free.ensures.stays _ _ _ c.self.invariant.0).1 ∙ c.self.view_is in
    rw (c.note_use.ensures.changed, c.take-slot.ensures.changed, ← e)
    (filled_is _ _ _ _ _ _ h c.args.line c.take-slot.result (omega (arith, lines_at _ _ _ _ _ _ h _ e)) (sym (resident_at _ _ _ _ _ _ h _ e c.args.line) ∙ c.requires.absent)
    c.take-slot.ensures.below c.take-slot.ensures.was_free c.args.bytes)

pub returns-clause-sound : goal.returns-clause-sound
returns-clause-sound c = (invariant_of-self c).0.held.sound
