use Rattle.std.proofs.Common.{ℕ, ◌+◌, ◌<◌, IsSome}
use Rattle.debugger.specs.CommandEffects.{byte_at}
use Rattle.debugger.proofs.sessions.effects.peek.Given as goal

abbrev pub invariant-loop-place : goal.invariant-loop-place
invariant-loop-place l = (k : ℕ) → k < l.place → IsSome (byte_at l.debugger.machine (l.address + k))
