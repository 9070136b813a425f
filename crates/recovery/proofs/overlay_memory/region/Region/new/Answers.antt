use Rattle.std.proofs.Common.{◌≡◌, ◌*◌, ◌/◌, length, arith}
use Rattle.line_memory.specs.Regions.{padded}
use Rattle.line_memory.proofs.Padding.{length-padded}
use Rattle.recovery.proofs.Starting.{lines_counted, region_starts}
use Rattle.recovery.proofs.overlay_memory.region.Region.new.Goals as goal

pub invariant_of-result : goal.invariant_of-result
invariant_of-result c =
    let whole : 64 * (c.args.size / 64) ≡ c.args.size = omega (arith, c.requires.whole) in
    let joined = rw whole at c.in_ok-start.ensures.ok in
    let count : length c.in_ok-start.start ≡ c.args.size / 64 =
    lines_counted c.in_ok-start.start (padded c.args.bytes.now c.args.size) c.args.size c.in_ok-start.ensures.whole joined (length-padded c.args.bytes.now c.args.size c.requires.fits) in
    (c.in_ok-start.ensures.whole.each, c.in_ok-held.ensures.fresh.over c.in_ok-start.start c.in_ok-start.ensures.whole.each count)

pub returns-clause-ok : goal.returns-clause-ok
returns-clause-ok c =
    let whole : 64 * (c.args.size / 64) ≡ c.args.size = omega (arith, c.requires.whole) in
    region_starts (record { start = c.in_ok-start.start; copies = c.in_ok-held.held }) c.args.bytes.now c.args.size
    c.in_ok-start.ensures.whole (rw whole at c.in_ok-start.ensures.ok) (length-padded c.args.bytes.now c.args.size c.requires.fits) c.in_ok-held.ensures.fresh c.requires.whole
