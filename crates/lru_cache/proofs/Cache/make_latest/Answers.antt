use Rattle.std.proofs.Common.{refl, sym}
use Rattle.lru_cache.proofs.Shows.{latest_loaded, latest_resident, latest_victim}
use Rattle.lru_cache.proofs.Cache.make_latest.Goals as goal

pub returns-else-not-is_latest-clause-resident : goal.returns-else-not-is_latest-clause-resident
returns-else-not-is_latest-clause-resident c =
    latest_resident _ c.if-not-is_latest.ensures.sound _ c.requires.over c.args.line (c.if-not-is_latest.ensures.latest.0 refl)

pub returns-else-not-is_latest-clause-changed : goal.returns-else-not-is_latest-clause-changed
returns-else-not-is_latest-clause-changed c =
    sym (latest_loaded _ c.if-not-is_latest.ensures.sound _ c.requires.over c.args.line c.requires.there (c.if-not-is_latest.ensures.latest.0 refl))

pub returns-else-not-is_latest-clause-medium : goal.returns-else-not-is_latest-clause-medium
returns-else-not-is_latest-clause-medium c =
    rw (latest_victim _ c.if-not-is_latest.ensures.sound _ c.requires.over c.args.line (c.if-not-is_latest.ensures.latest.0 refl)) refl
