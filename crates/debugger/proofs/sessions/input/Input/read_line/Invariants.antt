use Rattle.std.proofs.Common.{◌≡◌}
use Rattle.debugger.proofs.Taking.{IsPart}
use Rattle.debugger.proofs.sessions.input.Input.read_line.Given as goal

abbrev pub invariant-bytes : goal.invariant-bytes
invariant-bytes g l = record {
  same : g.S.Source.name_of l.source ≡ g.S.Source.name_of l.fn.source;
  failures : g.S.Source.failures_of l.source ≡ g.S.Source.failures_of l.fn.source;
  part : IsPart l.fn.self l.self (g.S.Source.remaining_of l.fn.source) (g.S.Source.remaining_of l.source) l.fit l.line.items;
}

abbrev pub decreases-bytes : goal.decreases-bytes
decreases-bytes g l = l.self.left
