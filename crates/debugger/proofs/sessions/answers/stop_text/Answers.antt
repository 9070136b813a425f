use Rattle.std.proofs.Common.{◌∙◌, ◌++◌, codes, decimal}
use Rattle.std.proofs.lemmas.Result.{IfOk-weaker}
use Rattle.hart.specs.HartLines.{hexadecimal}
use Rattle.debugger.proofs.Texts.{end_of_line}
use Rattle.debugger.proofs.sessions.answers.stop_text.Goals as goal

pub returns-in-Watch : goal.returns-in-Watch
returns-in-Watch g c = rw c.in-Watch.is (IfOk-weaker c.format.result _ _ (λ text written.
    let plain = rw c.in_radix.ensures at written in
    plain ∙ end_of_line (codes "watch h") (decimal c.in-Watch.hart) (codes " line=0x" ++ hexadecimal c.in-Watch.line)) c.format.ensures.ok)
