use Rattle.machine.proofs.Serving.{byte_past}
use Rattle.machine.proofs.shared_memory.shared.Shared.peek.Goals as goal
use Rattle.std.proofs.Common.{◌≡◌, ◌+◌, ◌-◌, sym, ◌∙◌, arith}
use Rattle.line_memory.specs.declared.TheConstants.{PERSISTENT_BASE}

pub returns : goal.returns
returns c =
    let place : c.args.address ≡ PERSISTENT_BASE + (c.args.address - PERSISTENT_BASE) = omega arith in
    rw (← c.self.view_is) (sym (byte_past _ _ c.args.address (c.args.address - PERSISTENT_BASE) place ∙ c.peek-2.ensures))
