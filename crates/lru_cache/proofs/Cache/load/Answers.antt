use Rattle.std.proofs.Common.{◌≡◌, ◌/◌, arith, ap, length, refl}
use Rattle.line_memory.specs.Lines.{line_at}
use Rattle.line_memory.proofs.Accesses.{line_loaded}
use Rattle.lru_cache.specs.Cache.{shown}
use Rattle.lru_cache.proofs.Shows.{whole_shown, length_shown, shown_copy}
use Rattle.lru_cache.proofs.Cache.load.Goals as goal

pub returns-clause-line : goal.returns-clause-line
returns-clause-line c =
    let middle = c.make_latest.new.self in
    let medium = c.make_latest.new.medium in
    let read : c.latest_copy.result.now ≡ line_at (shown middle medium) (c.args.at / 64) =
    shown_copy middle.copies medium (c.args.at / 64) _
    (omega (arith, length_shown middle.copies medium, length_shown c.args.self.now.copies c.args.medium.now, ap length c.make_latest.ensures.shown)) c.latest_copy.ensures.value in
    rw (c.load_bytes.ensures, read, c.make_latest.ensures.shown) refl

pub returns-clause-bytes : goal.returns-clause-bytes
returns-clause-bytes c =
    rw (returns-clause-line c)
    (line_loaded _ (rw c.make_latest.ensures.shown at (whole_shown _ c.make_latest.ensures.sound _ c.make_latest.ensures.over 0)) c.args.at c.args.width c.requires.width c.requires.aligned (omega (arith, length_shown c.args.self.now.copies c.args.medium.now)))
