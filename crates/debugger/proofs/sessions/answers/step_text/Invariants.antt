use Rattle.std.proofs.Common.{◌≡◌, ◌++◌, string_bytes}
use Rattle.debugger.specs.Answers.{changed_text}
use Rattle.debugger.proofs.sessions.answers.step_text.Given as goal

abbrev pub invariant-loop-number : goal.invariant-loop-number
invariant-loop-number g l = string_bytes l.text ≡ string_bytes l.initial.text ++ changed_text l.before l.after l.number
