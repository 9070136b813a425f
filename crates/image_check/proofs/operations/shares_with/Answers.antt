use Rattle.std.proofs.Common.{◌∙◌, sym, true≢false}
use Rattle.image_check.proofs.Sharing.{shared_by, unplanned_unshared}
use Rattle.image_check.proofs.operations.shares_with.Goals as goal

pub returns-in-Some : goal.returns-in-Some
returns-in-Some c =
    let t = shared_by c.args.plan.now.operations c.args.one c.args.other c.in-Some.one c.args.operation.now (sym c.find_operation.ensures ∙ c.in-Some.is) c.requires in
    (λ r. t.0 (c.share_inode.ensures.0 r), λ s. c.share_inode.ensures.1 (t.1 s))

pub returns-in-None : goal.returns-in-None
returns-in-None c = (
  λ f. absurd (true≢false (sym f)),
  λ s. absurd (unplanned_unshared c.args.plan.now.operations c.args.one c.args.other (sym c.find_operation.ensures ∙ c.in-None.is) s),
)
