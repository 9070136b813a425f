use Rattle.std.proofs.Common.{◌≡◌, string_bytes}
use Rattle.debugger.specs.LinesAtRisk.{line_texts}
use Rattle.debugger.proofs.sessions.lines_at_risk.lines_text.Given as goal

abbrev pub invariant-loop-line : goal.invariant-loop-line
invariant-loop-line l = string_bytes l.text ≡ line_texts l.events l.line
