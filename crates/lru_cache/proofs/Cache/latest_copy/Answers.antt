use Rattle.std.proofs.Common.{◌<◌, length, rules}
use Rattle.lru_cache.specs.Order.{set_of}
use Rattle.lru_cache.proofs.Told.{latest_some, latest_slot, latest_held, recent_low, copy_read, sound_at}
use Rattle.lru_cache.proofs.Cache.latest_copy.Goals as goal

pub latest_of-slot-requires-clause-some : goal.latest_of-slot-requires-clause-some
latest_of-slot-requires-clause-some c = latest_some _ _ _ _ _ _ c.self.invariant.0 _ c.self.view_is c.args.line c.requires

pub index-requires : goal.index-requires
index-requires c =
    let low : c.latest_of-slot.result < length c.self.inside.copies.items =
    rw c.self.invariant.0.copied (recent_low _ _ _ _ _ _ c.self.invariant.0 _ c.self.view_is (set_of c.args.line) _ c.latest_of-slot.ensures.member) in
    search rules

pub returns-clause-value : goal.returns-clause-value
returns-clause-value c =
    copy_read _ _ _ _ _ _ c.self.invariant.0 _ c.self.view_is c.args.line _ _ (latest_held _ _ _ _ _ _ c.self.invariant.0 _ c.self.view_is c.args.line _ c.requires c.latest_of-slot.ensures.value c.latest_of-slot.ensures.member) (latest_slot _ _ _ _ _ _ c.self.invariant.0 _ c.self.view_is c.args.line _ c.requires c.latest_of-slot.ensures.value c.latest_of-slot.ensures.member) c.index.ensures

pub returns-clause-whole : goal.returns-clause-whole
returns-clause-whole c = (sound_at _ _ _ _ _ _ c.self.invariant.0 _ c.self.view_is).whole c.args.line _ (returns-clause-value c)
