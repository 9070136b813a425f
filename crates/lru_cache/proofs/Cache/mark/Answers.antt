use Rattle.std.proofs.Common.{arith, ap, ◌∙◌, refl}
use Rattle.lru_cache.specs.Cache.{CacheView, is_dirty}
use Rattle.lru_cache.proofs.InLines.{marked_is}
use Rattle.lru_cache.proofs.Told.{dirty_held, slot_low}
use Rattle.lru_cache.proofs.Stays.{in_mark, over_mark}
use Rattle.lru_cache.proofs.Cache.mark.Goals as goal

pub slot_of-slot-requires : goal.slot_of-slot-requires
slot_of-slot-requires c = dirty_held _ _ _ _ _ _ c.self.invariant.0 _ c.self.view_is c.args.line c.requires.dirty

pub mark-requires-clause-slot : goal.mark-requires-clause-slot
mark-requires-clause-slot c =
    omega (arith, c.self.invariant.0.nodes, c.self.invariant.0.slots.few, slot_low _ _ _ _ _ _ c.self.invariant.0 _ c.self.view_is c.args.line _ (dirty_held _ _ _ _ _ _ c.self.invariant.0 _ c.self.view_is c.args.line c.requires.dirty) c.slot_of-slot.ensures)

pub invariant_of-self : goal.invariant_of-self
invariant_of-self c = (
  rw (c.mark.ensures.changed, c.slot_of-slot.ensures)
      (in_mark _ _ _ _ _ _ c.self.invariant.0 c.args.line (dirty_held _ _ _ _ _ _ c.self.invariant.0 _ c.self.view_is c.args.line c.requires.dirty) c.args.k c.requires.list (ap (λ (w : CacheView). is_dirty w c.args.line) c.self.view_is ∙ c.requires.dirty)),
  c.self.invariant.1,
)

pub returns-clause-changed : goal.returns-clause-changed
returns-clause-changed c =
    rw (c.mark.ensures.changed, c.slot_of-slot.ensures, ← c.self.view_is)
    (marked_is _ _ _ _ _ _ c.self.invariant.0 c.args.line (dirty_held _ _ _ _ _ _ c.self.invariant.0 _ c.self.view_is c.args.line c.requires.dirty) c.args.k)

pub returns-clause-sound : goal.returns-clause-sound
returns-clause-sound c = (invariant_of-self c).0.held.sound

pub returns-clause-over : goal.returns-clause-over
returns-clause-over c = λ medium over. rw (returns-clause-changed c) (over_mark c.args.k c.args.line _ medium over)

pub returns-clause-shown : goal.returns-clause-shown
returns-clause-shown c = λ medium. rw (returns-clause-changed c) refl
