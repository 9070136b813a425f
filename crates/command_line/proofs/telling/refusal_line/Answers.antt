use Rattle.std.proofs.Common.{◌++◌, ◌∙◌, ap, List, ℕ}
use Rattle.std.proofs.lemmas.Fmt.{contents_after_writes}
use Rattle.arrayvec.specs.ArrayString.{ArrayString}
use Rattle.command_line.specs.Failures.{refusal_text}
use Rattle.command_line.specs.Reports.{line_end}
use Rattle.command_line.proofs.telling.refusal_line.Goals as goal

pub returns-in-Ok : goal.returns-in-Ok
returns-in-Ok c = contents_after_writes _ (λ (line : ArrayString). line.bytes) (λ w l v t. t) _ _ _ c.in-Ok.ensures.writes
    ∙ ap (λ (bytes : List ℕ). bytes ++ (refusal_text c.args.refusal.now ++ line_end)) c.new-line.ensures
