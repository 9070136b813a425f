-- One power cut, and then those that come later.
use Rattle.command_line.proofs.Chains.{explained_cuts_more}
use Rattle.command_line.proofs.Texts.{first_rest}
use Rattle.command_line.proofs.cut_reasons.+explained_cuts.Goals as goal

pub returns-clause-told : goal.returns-clause-told
returns-clause-told t c =
    explained_cuts_more _ _ _ c.link-item.result _ c.args.links.now c.args.before.now c.in_ok-left.left c.in_ok-later.later c.with_cut.result
    (first_rest c.args.links.now c.link-item.result c.in-len1-up.len_at_least c.link-item.is) c.in_ok-run.ensures.ok c.with_cut.ensures.told c.in_ok-later.ensures.told
