use Rattle.std.proofs.Common.{◌∙◌, sym}
use Rattle.verdict.proofs.branches.opener.Opener.open.Goals as goal

pub invariant_of-self : goal.invariant_of-self
invariant_of-self g c =
    let e = c.open_all.ensures in (
      e.run_size ∙ (c.self.invariant.0 ∙ sym e.size),
      e.least_size ∙ (c.self.invariant.1 ∙ sym e.size),
    )

pub invariant_of-self-2 : goal.invariant_of-self-2
invariant_of-self-2 g c =
    let e = c.open_all.ensures in (
      c.finish.ensures.run_size ∙ (e.run_size ∙ (c.self.invariant.0 ∙ sym e.size)),
      e.least_size ∙ (c.self.invariant.1 ∙ sym e.size),
    )
