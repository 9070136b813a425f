use Rattle.std.proofs.Common.{◌≡◌, ◌≤◌, ◌+◌, ◌-◌, ◌*◌, length, arith}
use Rattle.line_memory.specs.declared.TheConstants.{PERSISTENT_BASE}
use Rattle.machine.proofs.Serving.{no_line}
use Rattle.machine.proofs.shared_memory.shared.Shared.cache_operation.Goals as goal

pub returns-then-offset-size-clause-ok : goal.returns-then-offset-size-clause-ok
returns-then-offset-size-clause-ok c =
    let offset = c.args.address - PERSISTENT_BASE in
    let place : c.args.address ≡ PERSISTENT_BASE + offset = omega arith in
    let past : 64 * length c.args.self.now.cache.lines ≤ offset = omega arith in
    no_line _ c.args.op c.args.hart c.args.address offset place past
