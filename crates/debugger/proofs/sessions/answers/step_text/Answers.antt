use Rattle.debugger.proofs.Texts.{changes_begun, changes_more}
use Rattle.debugger.proofs.sessions.answers.step_text.Goals as goal

pub loop-number-init : goal.loop-number-init
loop-number-init g c = changes_begun _ c.args.before.now c.args.after.now

pub loop-number-preserved : goal.loop-number-preserved
loop-number-preserved g c =
    changes_more _ _ _ c.args.before.now c.args.after.now c.loop-number.number c.loop-number.invariant c.in_ok-push_changed.ensures
