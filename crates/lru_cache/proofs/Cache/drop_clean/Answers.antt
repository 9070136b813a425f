use Rattle.std.proofs.Common.{sym, ◌∙◌}
use Rattle.lru_cache.proofs.Keeps.{nothing_dropped}
use Rattle.lru_cache.proofs.Shows.{over_drop, shown_dropped}
use Rattle.lru_cache.proofs.Cache.drop_clean.Goals as goal

pub returns-then-is_resident-clause-over : goal.returns-then-is_resident-clause-over
returns-then-is_resident-clause-over c = λ medium over.
    rw c.drop_resident.ensures.changed (over_drop _ c.is_resident.ensures.sound medium over c.args.line c.requires.clean)

pub returns-then-is_resident-clause-shown : goal.returns-then-is_resident-clause-shown
returns-then-is_resident-clause-shown c = λ medium over.
    rw c.drop_resident.ensures.changed (shown_dropped _ medium c.args.line (over.clean c.args.line c.requires.clean))

pub returns-else-is_resident-clause-changed : goal.returns-else-is_resident-clause-changed
returns-else-is_resident-clause-changed c =
    sym (nothing_dropped _ c.is_resident.ensures.sound c.args.line (sym c.is_resident.ensures.value ∙ c.if-is_resident.false))
