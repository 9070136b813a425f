use Rattle.std.proofs.Common.{◌∷◌, []}
use Rattle.store_trace.specs.declared.crash_model.step.PersistenceStep.TheVariants.{Fence}
use Rattle.schedule_states.specs.Memories.{AreLinesSoFar}
use Rattle.schedule_states.proofs.line_table.LineTable.fence.Given as goal

abbrev pub invariant-loop-at : goal.invariant-loop-at
invariant-loop-at l = AreLinesSoFar l.initial.self l.self (λ k. Fence l.hart ∷ []) l.held l.at l.lines.items
