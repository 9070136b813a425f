use Rattle.std.proofs.Common.{◌≡◌, ◌+◌, ◌≤◌, ◌∷◌, [], ◌∙◌, ap, arith, length, slice_index_or}
use Rattle.std.proofs.lemmas.List.{length-append, get_or_default}
use Rattle.lru_cache.specs.SlotMap.{SlotMap, has_slot}
use Rattle.lru_cache.proofs.Tables.{table_freed, held_there}
use Rattle.lru_cache.proofs.slots.Slots.release.Goals as goal

pub invariant_of-self : goal.invariant_of-self
invariant_of-self c =
    let s : SlotMap = record { most = c.self.inside.most; slots = c.self.inside.slot_of.items; lines = c.self.inside.line_of.items; free = length c.self.inside.free.items } in
    let held = ap (λ (m : SlotMap). has_slot m c.args.line) c.self.view_is ∙ c.requires.held in
    let slot : c.index-slot.result.now ≡ slice_index_or c.self.inside.slot_of.items c.args.line c.self.inside.most =
    c.index-slot.ensures ∙ get_or_default c.self.inside.slot_of.items c.args.line c.index-slot.result.now c.self.inside.most (held_there s c.args.line c.self.invariant.sound held) in
    let more : length c.push_reserved.new.self.items ≡ length c.self.inside.free.items + 1 =
    ap length c.push_reserved.ensures.items ∙ length-append c.self.inside.free.items (c.index-slot.result.now ∷ []) in
    let room : length c.self.inside.free.items + 1 ≤ length c.self.inside.line_of.items = omega (arith, ap (λ (m : SlotMap). m.free) c.self.view_is, ap (λ (m : SlotMap). length m.lines) c.self.view_is, c.requires.room) in
    rw (c.push_reserved.ensures.capacity, c.push_reserved.ensures.items) (table_freed _ _ _ _ _ c.self.invariant c.args.line _ _ held slot room (rw c.push_reserved.ensures.items at more))

pub returns-clause-sound : goal.returns-clause-sound
returns-clause-sound c = (invariant_of-self c).sound
