use Rattle.std.proofs.Common.{arith}
use Rattle.line_memory.proofs.Accesses.{line_peeked}
use Rattle.lru_cache.proofs.Shows.{whole_shown, length_shown}
use Rattle.lru_cache.proofs.Cache.peek.Goals as goal

pub returns-clause-bytes : goal.returns-clause-bytes
returns-clause-bytes c =
    rw c.shown_line.ensures.value
    (line_peeked _ (whole_shown _ c.shown_line.ensures.sound _ c.requires.over 0) c.args.at (omega (arith, length_shown c.args.self.now.copies c.args.medium.now)))
