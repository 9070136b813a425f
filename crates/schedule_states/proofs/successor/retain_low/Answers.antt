use Rattle.std.proofs.Common.{rules}
use Rattle.std.proofs.lemmas.Fn.{filter_same}
use Rattle.schedule_states.specs.HeldLines.{is_low}
use Rattle.schedule_states.proofs.successor.retain_low.Goals as goal

pub returns : goal.returns
returns c = filter_same _ is_low _ (λ x b f' k. search rules) _ _ c.retain.ensures.filtered
