use Rattle.std.proofs.Common.{rules}
use Rattle.std.proofs.lemmas.Fn.{filter_same}
use Rattle.schedule_states.specs.HeldLines.{is_of_medium}
use Rattle.schedule_states.proofs.held_lines.retain_of_medium.Goals as goal

pub returns : goal.returns
returns c = filter_same _ is_of_medium _ (λ x b f' k. search rules) _ _ c.retain.ensures.filtered
