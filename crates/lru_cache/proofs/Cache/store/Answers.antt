use Rattle.std.proofs.Common.{◌≡◌, ◌<◌, ◌/◌, ◌%◌, List, ℕ, arith, ap, length, refl}
use Rattle.line_memory.proofs.Accesses.{line_stored}
use Rattle.line_memory.specs.Lines.{line_at}
use Rattle.lru_cache.specs.Cache.{after_change, shown}
use Rattle.word_bits.specs.Bytes.{stored}
use Rattle.lru_cache.proofs.Shows.{copy_there, whole_shown, length_shown, shown_put, over_change}
use Rattle.lru_cache.proofs.Cache.store.Goals as goal

pub returns-clause-line : goal.returns-clause-line
returns-clause-line c =
    let middle = c.make_latest.new.self in
    let medium = c.make_latest.new.medium in
    let line : ℕ = c.args.at / 64 in
    let bytes : List ℕ = stored (line_at (shown middle medium) line) (c.args.at % 64) c.args.width c.args.value in
    let low : line < length medium =
    omega (arith, length_shown middle.copies medium, length_shown c.args.self.now.copies c.args.medium.now, ap length c.make_latest.ensures.shown) in
    let changed : c.change.new.self ≡ after_change line bytes middle =
    c.change.ensures.changed _ (copy_there middle c.make_latest.ensures.sound medium c.make_latest.ensures.over line low c.make_latest.ensures.resident) in
    rw (
      changed,
      shown_put middle.copies medium line bytes (omega (arith, c.make_latest.ensures.sound.copied, c.make_latest.ensures.over.count)),
      c.make_latest.ensures.shown,
    ) refl

pub returns-clause-bytes : goal.returns-clause-bytes
returns-clause-bytes c =
    rw (returns-clause-line c)
    (line_stored _ (rw c.make_latest.ensures.shown at (whole_shown _ c.make_latest.ensures.sound _ c.make_latest.ensures.over 0)) c.args.at c.args.width c.args.value c.requires.width c.requires.aligned (omega (arith, length_shown c.args.self.now.copies c.args.medium.now)))

pub returns-clause-over : goal.returns-clause-over
returns-clause-over c =
    let middle = c.make_latest.new.self in
    let medium = c.make_latest.new.medium in
    let line : ℕ = c.args.at / 64 in
    let bytes : List ℕ = stored (line_at (shown middle medium) line) (c.args.at % 64) c.args.width c.args.value in
    let low : line < length medium =
    omega (arith, length_shown middle.copies medium, length_shown c.args.self.now.copies c.args.medium.now, ap length c.make_latest.ensures.shown) in
    let changed : c.change.new.self ≡ after_change line bytes middle =
    c.change.ensures.changed _ (copy_there middle c.make_latest.ensures.sound medium c.make_latest.ensures.over line low c.make_latest.ensures.resident) in
    rw changed (over_change middle c.make_latest.ensures.sound medium c.make_latest.ensures.over line bytes low)
