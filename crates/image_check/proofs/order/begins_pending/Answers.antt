use Rattle.std.proofs.Common.{◌∙◌, sym}
use Rattle.image_check.proofs.Settling.{begins_ended, begins_none}
use Rattle.image_check.proofs.order.begins_pending.Goals as goal

pub returns-in-Some : goal.returns-in-Some
returns-in-Some c = λ f op b.
    begins_ended c.args.events.now op c.in-Some.op c.has_ended.result (sym c.in-Some.is ∙ c.begun.ensures ∙ b) f c.has_ended.ensures.0

pub returns-in-None : goal.returns-in-None
returns-in-None c = λ f op b. begins_none c.args.events.now op (sym c.in-None.is ∙ c.begun.ensures ∙ b)
