use Rattle.std.proofs.Common.{◌≡◌, ◌≢◌, ◌≤◌, ◌+◌, ◌-◌, ◌*◌, ◌%◌, length, arith}
use Rattle.line_memory.specs.declared.TheConstants.{PERSISTENT_BASE}
use Rattle.machine.proofs.Serving.{misaligned_in_lines, outside_lines}
use Rattle.machine.proofs.shared_memory.shared.Shared.place_in_lines.Goals as goal

pub returns-then-not-is_aligned-clause-err : goal.returns-then-not-is_aligned-clause-err
returns-then-not-is_aligned-clause-err c =
    let offset = c.args.address - PERSISTENT_BASE in
    let place : c.args.address ≡ PERSISTENT_BASE + offset = omega arith in
    let odd : offset % c.args.width ≢ 0 = rw c.if-not-is_aligned.true at c.is_aligned.ensures in
    misaligned_in_lines c.args.self.now c.args.address offset c.args.width c.requires.width place odd

pub returns-then-offset-size-clause-err : goal.returns-then-offset-size-clause-err
returns-then-offset-size-clause-err c =
    let offset = c.args.address - PERSISTENT_BASE in
    let place : c.args.address ≡ PERSISTENT_BASE + offset = omega arith in
    let aligned : offset % c.args.width ≡ 0 = rw c.if-not-is_aligned.false at c.is_aligned.ensures in
    let past : 64 * length c.args.self.now.cache.lines ≤ offset = omega arith in
    outside_lines c.args.self.now c.args.address offset c.args.width c.requires.width place aligned past
