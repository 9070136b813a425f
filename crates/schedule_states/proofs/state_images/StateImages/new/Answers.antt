use Rattle.std.proofs.Common.{◌≡◌, ◌<◌, ℕ, inl, inr, Some, length, slice_get, slice_index_or, ap, sym, ◌∙◌, subst, rules, arith}
use Rattle.std.proofs.lemmas.Bool.{cases_lt}
use Rattle.std.proofs.lemmas.Option.{same_Some, slice_get-get_or}
use Rattle.schedule_states.proofs.Imaging.{fair_lines}
use Rattle.schedule_states.specs.Images.{IsFair}
use Rattle.schedule_states.specs.declared.held_lines.HeldLine.{HeldLine}
use Rattle.schedule_states.specs.declared.line_state.LineState.{LineState}
use Rattle.schedule_states.proofs.state_images.StateImages.new.Goals as goal

pub loop-one-preserved : goal.loop-one-preserved
loop-one-preserved c n d s few found =
    let fair : IsFair c.line_state.result.now = search rules in
    let there : c.loop-one.one-index < length c.args.memory.held = search rules in
    let none : HeldLine = record { line = 0; state = 0 } in
    let here : slice_get c.args.memory.states (slice_index_or c.args.memory.held c.loop-one.one-index none).state ≡ Some c.line_state.result.now =
    rw c.held-one-items.ensures.value at c.line_state.ensures in
    elim (cases_lt n c.loop-one.one-index) [
      | inl earlier ↦ c.loop-one.invariant n d s earlier found
      | inr last ↦
          let same : n ≡ c.loop-one.one-index = omega (arith, few, last) in
          let read : slice_index_or c.args.memory.held c.loop-one.one-index d ≡ slice_index_or c.args.memory.held c.loop-one.one-index none =
          same_Some (slice_index_or c.args.memory.held c.loop-one.one-index d) (slice_index_or c.args.memory.held c.loop-one.one-index none)
          (sym (slice_get-get_or c.args.memory.held c.loop-one.one-index d there) ∙ slice_get-get_or c.args.memory.held c.loop-one.one-index none there) in
          let mine : slice_get c.args.memory.states (slice_index_or c.args.memory.held c.loop-one.one-index none).state ≡ Some s =
          ap (λ (h : HeldLine). slice_get c.args.memory.states h.state) (sym read)
          ∙ ap (λ (m : ℕ). slice_get c.args.memory.states (slice_index_or c.args.memory.held m d).state) (sym same) ∙ found in
          subst (λ (x : LineState). IsFair x) (same_Some c.line_state.result.now s (sym here ∙ mine)) fair
    ]

pub invariant_of-result : goal.invariant_of-result
invariant_of-result c = (
  fair_lines c.args.memory (λ n d s few found. c.loop-one.invariant n d s (search rules) found),
  c.medium.ensures.whole,
)
