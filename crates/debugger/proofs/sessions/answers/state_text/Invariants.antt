use Rattle.std.proofs.Common.{◌≡◌, string_bytes}
use Rattle.debugger.proofs.Texts.{registers_below}
use Rattle.debugger.proofs.sessions.answers.state_text.Given as goal

abbrev pub invariant-loop-number : goal.invariant-loop-number
invariant-loop-number l = string_bytes l.text ≡ registers_below l.state l.number
