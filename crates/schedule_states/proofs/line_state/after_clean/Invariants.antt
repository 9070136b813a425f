use Rattle.std.proofs.Common.{◌≡◌, map, take}
use Rattle.schedule_states.specs.LineStates.{gone_with}
use Rattle.schedule_states.proofs.line_state.after_clean.Given as goal

abbrev pub invariant-loop-content : goal.invariant-loop-content
invariant-loop-content l = l.others.items ≡ map (gone_with l.hart) (take l.content-index l.contents)
