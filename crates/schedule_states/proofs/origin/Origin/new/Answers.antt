use Rattle.std.proofs.Common.{◌≡◌, length, rules}
use Rattle.line_memory.specs.declared.TheConstants.{TEXT_SIZE}
use Rattle.schedule_states.proofs.Fetching.{text_at_start}
use Rattle.schedule_states.proofs.origin.Origin.new.Goals as goal

pub invariant_of-result : goal.invariant_of-result
invariant_of-result c =
    let copied : c.in-Ok-new.text ≡ c.in-Ok.lines.program.text = search rules in
    let whole : length c.in-Ok.lines.program.text ≡ TEXT_SIZE = search rules in
    rw copied (text_at_start c.in-Ok.lines whole)
