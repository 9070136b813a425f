use Rattle.std.proofs.Common.{Some, rules, sym, ap, ◌∙◌}
use Rattle.hart.specs.declared.state.HartState.{HartState}
use Rattle.std.proofs.lemmas.Option.{slice_get-get_or}
use Rattle.unfinished.proofs.Loops.{hart_push, hart_skip}
use Rattle.unfinished.proofs.unfinished.note_harts.Goals as goal
use Rattle.unfinished.proofs.unfinished.note_harts.Goals.{then-not-is_success+in_ok-push, else-not-is_success}

pub loop-hart-preserved : goal.loop-hart-preserved
loop-hart-preserved c = elim c.if-not-is_success.branch [
  | then-not-is_success+in_ok-push w ↦
      hart_push c.args.harts.now c.loop-hart.hart c.index-harts-hart.result c.is_success.result c.loop-hart.causes.items
      c.if-not-is_success.causes.items (slice_get-get_or _ _ _ c.loop-hart-test.true ∙ ap (λ (state : HartState). Some state) (sym c.index-harts-hart.is)) c.is_success.ensures w.if-not-is_success.true c.loop-hart.invariant
      (rw w.causes-is (search rules))
  | else-not-is_success w ↦
      hart_skip c.args.harts.now c.loop-hart.hart c.index-harts-hart.result c.is_success.result c.loop-hart.causes.items
      c.if-not-is_success.causes.items (slice_get-get_or _ _ _ c.loop-hart-test.true ∙ ap (λ (state : HartState). Some state) (sym c.index-harts-hart.is)) c.is_success.ensures w.if-not-is_success.false c.loop-hart.invariant
      (rw w.causes-is (search rules))
]
