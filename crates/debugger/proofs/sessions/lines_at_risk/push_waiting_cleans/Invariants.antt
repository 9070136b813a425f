use Rattle.std.proofs.Common.{◌≡◌, ◌++◌, string_bytes}
use Rattle.debugger.specs.LinesAtRisk.{tally_texts}
use Rattle.debugger.proofs.sessions.lines_at_risk.push_waiting_cleans.Given as goal

abbrev pub invariant-loop-hart : goal.invariant-loop-hart
invariant-loop-hart l = string_bytes l.text ≡ string_bytes l.fn.text ++ tally_texts l.tally l.hart
