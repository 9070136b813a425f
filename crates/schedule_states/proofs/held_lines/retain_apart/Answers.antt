use Rattle.std.proofs.Common.{rules}
use Rattle.std.proofs.lemmas.Fn.{filter_same}
use Rattle.schedule_states.specs.HeldLines.{is_apart}
use Rattle.schedule_states.proofs.held_lines.retain_apart.Goals as goal

pub returns : goal.returns
returns c = filter_same _ (is_apart c.args.line) _ (λ x b f' k. search rules) _ _ c.retain.ensures.filtered
