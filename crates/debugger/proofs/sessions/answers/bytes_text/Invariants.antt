use Rattle.std.proofs.Common.{◌≡◌, string_bytes}
use Rattle.debugger.proofs.Texts.{bytes_below}
use Rattle.debugger.proofs.sessions.answers.bytes_text.Given as goal

abbrev pub invariant-loop-place : goal.invariant-loop-place
invariant-loop-place l = string_bytes l.text ≡ bytes_below l.debugger.machine l.address l.place
