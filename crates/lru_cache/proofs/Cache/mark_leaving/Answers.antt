use Rattle.std.proofs.Common.{◌<◌, length, ap, ◌∙◌, refl, rules}
use Rattle.lru_cache.specs.Cache.{CacheView, is_dirty}
use Rattle.lru_cache.proofs.InLines.{leaving_is}
use Rattle.lru_cache.proofs.Told.{dirty_held, slot_low}
use Rattle.lru_cache.proofs.Stays.{in_mark_leaving, over_mark_leaving}
use Rattle.lru_cache.proofs.Cache.mark_leaving.Goals as goal

pub slot_of-slot-requires : goal.slot_of-slot-requires
slot_of-slot-requires c = dirty_held _ _ _ _ _ _ c.self.invariant.0 _ c.self.view_is c.args.line c.requires

pub index_mut-requires : goal.index_mut-requires
index_mut-requires c =
    let low : c.slot_of-slot.result < length c.self.inside.leaving.items =
    rw c.self.invariant.0.flagged
    (slot_low _ _ _ _ _ _ c.self.invariant.0 _ c.self.view_is c.args.line _ (dirty_held _ _ _ _ _ _ c.self.invariant.0 _ c.self.view_is c.args.line c.requires) c.slot_of-slot.ensures) in
    search rules

pub invariant_of-self : goal.invariant_of-self
invariant_of-self c = (
  rw c.slot_of-slot.ensures
      (in_mark_leaving _ _ _ _ _ _ c.self.invariant.0 c.args.line (dirty_held _ _ _ _ _ _ c.self.invariant.0 _ c.self.view_is c.args.line c.requires) (ap (λ (w : CacheView). is_dirty w c.args.line) c.self.view_is ∙ c.requires)),
  c.self.invariant.1,
)

pub returns-clause-changed : goal.returns-clause-changed
returns-clause-changed c =
    rw (c.slot_of-slot.ensures, ← c.self.view_is)
    (leaving_is _ _ _ _ _ _ c.self.invariant.0 c.args.line (dirty_held _ _ _ _ _ _ c.self.invariant.0 _ c.self.view_is c.args.line c.requires))

pub returns-clause-sound : goal.returns-clause-sound
returns-clause-sound c = (invariant_of-self c).0.held.sound

pub returns-clause-over : goal.returns-clause-over
returns-clause-over c = λ medium over. rw (returns-clause-changed c) (over_mark_leaving c.args.line _ medium over)

pub returns-clause-shown : goal.returns-clause-shown
returns-clause-shown c = λ medium. rw (returns-clause-changed c) refl
