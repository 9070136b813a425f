use Rattle.std.proofs.Common.{◌≡◌, ◌<◌, ℕ, ◌∷◌, [], length, slice_index_or, subst, rules}
use Rattle.std.proofs.lemmas.List.{get_or_default}
use Rattle.schedule_states.proofs.Fencing.{fence_made, so_far_all, so_far_more}
use Rattle.schedule_states.proofs.Putting.{below_grows}
use Rattle.schedule_states.specs.Memories.{AreLinesSoFar, IsFencedAt}
use Rattle.schedule_states.specs.declared.held_lines.HeldLine.{HeldLine}
use Rattle.store_trace.specs.declared.crash_model.step.PersistenceStep.TheVariants.{Fence}
use Rattle.schedule_states.proofs.line_table.LineTable.fence.Goals as goal

pub fence_line-requires-clause-below : goal.fence_line-requires-clause-below
fence_line-requires-clause-below c =
    below_grows c.args.self.now.states c.loop-at.self.states c.args.held.now c.loop-at.invariant.grows c.requires.below

pub loop-at-preserved : goal.loop-at-preserved
loop-at-preserved c =
    let there : c.loop-at.at < length c.args.held.now = search rules in
    let one : HeldLine = slice_index_or c.args.held.now c.loop-at.at (record { line = 0; state = 0 }) in
    let is : slice_index_or c.args.held.now c.loop-at.at one ≡ one = get_or_default c.args.held.now c.loop-at.at one (record { line = 0; state = 0 }) there in
    let line : c.from.result ≡ one.line = search rules in
    so_far_more c.args.self.now c.loop-at.self c.fence_line.new.self c.args.hart c.args.held.now c.loop-at.lines.items
    c.in_ok-lines-2.lines.items c.loop-at.at one there is c.requires.below c.loop-at.invariant c.in_ok-lines-2.ensures.start c.in_ok-lines-2.ensures.grows
    (subst (λ (n : ℕ). IsFencedAt c.loop-at.self c.fence_line.new.self c.args.hart c.args.held.now c.loop-at.lines.items n c.in_ok-lines-2.lines.items)
    line c.in_ok-lines-2.ensures.put)

pub returns-clause-fenced : goal.returns-clause-fenced
returns-clause-fenced c =
    let end : c.loop-at.at ≡ length c.args.held.now = search rules in
    λ memory p of. fence_made c.args.self.now c.loop-at.self c.args.hart c.args.held.now c.loop-at.lines.items memory p c.loop-at.invariant.start
    (so_far_all c.args.self.now c.loop-at.self c.args.hart c.args.held.now c.loop-at.lines.items c.requires.hart
    (subst (λ (n : ℕ). AreLinesSoFar c.args.self.now c.loop-at.self (λ k. Fence c.args.hart ∷ []) c.args.held.now n c.loop-at.lines.items) end c.loop-at.invariant)) of
