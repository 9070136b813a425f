use Rattle.store_trace.specs.declared.event.Event.TheVariants.{Store}
use Rattle.image_check.proofs.Leaving.{kept_still, kept_store}
use Rattle.image_check.proofs.moment_judge.leave_next.Goals as goal

pub returns-in-Store : goal.returns-in-Store
returns-in-Store c = λ start kept.
    kept_store start c.events.result.now c.args.trace.now.events c.args.moment _ _ _ _ _ (Store 0 0 0 0 0) c.args.workspace.now.kept c.leave.new.self.kept
    c.events.ensures.value c.requires c.in-Store.is c.leave.ensures kept

pub returns-in_default : goal.returns-in_default
returns-in_default c = λ start kept.
    kept_still start c.events.result.now c.args.trace.now.events c.args.moment (Store 0 0 0 0 0) c.args.workspace.now.kept
    c.events.ensures.value c.requires c.in_default.not-Store kept
