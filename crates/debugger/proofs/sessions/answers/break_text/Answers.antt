use Rattle.std.proofs.Common.{◌∙◌, codes, decimal, string_bytes}
use Rattle.std.proofs.lemmas.Result.{IfOk-weaker}
use Rattle.debugger.proofs.Texts.{end_of_line}
use Rattle.debugger.proofs.sessions.answers.break_text.Goals as goal

pub returns : goal.returns
returns g c = IfOk-weaker c.format.result _ _ (λ text written.
    let plain = rw c.in_ok-place.ensures at written in
    plain ∙ end_of_line (codes "break h") (decimal c.args.hart) _) c.format.ensures.ok
