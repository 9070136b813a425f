use Rattle.std.proofs.Common.{rules}
use Rattle.std.proofs.lemmas.Fn.{filter_same}
use Rattle.schedule_states.specs.Claims.{is_of_other}
use Rattle.schedule_states.proofs.exploring.leave_out.Goals as goal

pub returns : goal.returns
returns c = filter_same _ (is_of_other c.args.line) _ (λ x b f' k. search rules) _ _ c.retain.ensures.filtered
