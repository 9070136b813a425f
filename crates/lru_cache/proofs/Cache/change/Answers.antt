use Rattle.std.proofs.Common.{◌≡◌, ◌<◌, length, rules, arith, sym, ◌∙◌}
use Rattle.line_memory.proofs.Maps.{length-stored}
use Rattle.word_bits.specs.Bytes.{stored}
use Rattle.lru_cache.specs.Order.{set_of}
use Rattle.lru_cache.proofs.InLines.{changed_is}
use Rattle.lru_cache.proofs.Told.{latest_some, latest_slot, latest_held, recent_low, copy_read, sound_at}
use Rattle.lru_cache.proofs.Stays.{in_change}
use Rattle.lru_cache.proofs.Cache.change.Goals as goal

pub latest_of-slot-requires-clause-some : goal.latest_of-slot-requires-clause-some
latest_of-slot-requires-clause-some c = latest_some _ _ _ _ _ _ c.self.invariant.0 _ c.self.view_is c.args.line c.requires.latest

pub index_mut-requires : goal.index_mut-requires
index_mut-requires c =
    let low : c.latest_of-slot.result < length c.self.inside.copies.items =
    rw c.self.invariant.0.copied (recent_low _ _ _ _ _ _ c.self.invariant.0 _ c.self.view_is (set_of c.args.line) _ c.latest_of-slot.ensures.member) in
    search rules

pub note_store-requires : goal.note_store-requires
note_store-requires c =
    omega (arith, c.self.invariant.0.nodes, c.self.invariant.0.slots.few, recent_low _ _ _ _ _ _ c.self.invariant.0 _ c.self.view_is (set_of c.args.line) _ c.latest_of-slot.ensures.member)

pub invariant_of-self : goal.invariant_of-self
invariant_of-self c = (
  let held = latest_held _ _ _ _ _ _ c.self.invariant.0 _ c.self.view_is c.args.line _ c.requires.latest c.latest_of-slot.ensures.value c.latest_of-slot.ensures.member in
      let slot = latest_slot _ _ _ _ _ _ c.self.invariant.0 _ c.self.view_is c.args.line _ c.requires.latest c.latest_of-slot.ensures.value c.latest_of-slot.ensures.member in
      let copy = copy_read _ _ _ _ _ _ c.self.invariant.0 _ c.self.view_is c.args.line _ _ held slot c.index_mut.ensures.value in
      let long = (sound_at _ _ _ _ _ _ c.self.invariant.0 _ c.self.view_is).whole c.args.line _ copy in
      rw (c.note_store.ensures.changed, slot, c.store_bytes.ensures)
      (in_change _ _ _ _ _ _ c.self.invariant.0 c.args.line held (stored c.index_mut.result.now c.args.at c.args.width c.args.value)
      (length-stored c.index_mut.result.now c.args.at c.args.width c.args.value (omega (arith, c.requires.fits, long)) ∙ long)),
  c.self.invariant.1,
)

pub returns-clause-changed : goal.returns-clause-changed
returns-clause-changed c = λ bytes is.
    let held = latest_held _ _ _ _ _ _ c.self.invariant.0 _ c.self.view_is c.args.line _ c.requires.latest c.latest_of-slot.ensures.value c.latest_of-slot.ensures.member in
    let slot = latest_slot _ _ _ _ _ _ c.self.invariant.0 _ c.self.view_is c.args.line _ c.requires.latest c.latest_of-slot.ensures.value c.latest_of-slot.ensures.member in
    let copy = copy_read _ _ _ _ _ _ c.self.invariant.0 _ c.self.view_is c.args.line _ _ held slot c.index_mut.ensures.value in
    let same : c.index_mut.result.now ≡ bytes = let both = sym copy ∙ is in cc in
    rw (c.note_store.ensures.changed, slot, c.store_bytes.ensures, same, ← c.self.view_is)
    (changed_is _ _ _ _ _ _ c.self.invariant.0 c.args.line held (stored bytes c.args.at c.args.width c.args.value))

pub returns-clause-sound : goal.returns-clause-sound
returns-clause-sound c = (invariant_of-self c).0.held.sound
