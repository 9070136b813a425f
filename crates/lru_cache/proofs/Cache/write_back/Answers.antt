use Rattle.std.proofs.Common.{sym, ◌∙◌}
use Rattle.lru_cache.proofs.Keeps.{nothing_written}
use Rattle.lru_cache.proofs.Cache.write_back.Goals as goal

pub returns-else-is_dirty-clause-changed : goal.returns-else-is_dirty-clause-changed
returns-else-is_dirty-clause-changed c =
    sym (nothing_written _ c.is_dirty.ensures.sound c.args.line (sym c.is_dirty.ensures.value ∙ c.if-is_dirty.false))
