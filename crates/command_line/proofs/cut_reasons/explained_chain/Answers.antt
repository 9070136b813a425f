-- The program's power cut, and then those that come later.
use Rattle.command_line.proofs.Chains.{chain_more}
use Rattle.command_line.proofs.Texts.{first_rest}
use Rattle.command_line.proofs.cut_reasons.explained_chain.Goals as goal

pub returns-clause-told : goal.returns-clause-told
returns-clause-told c = record {
  explains = chain_more _ _ _ c.link-item.result _ c.args.links.now c.in_ok-left.left c.in_ok-later.later.images.items c.in_ok-later.later.cuts.items _ _
      (first_rest c.args.links.now c.link-item.result c.in-len1-up.len_at_least c.link-item.is) c.in_ok-all.ensures.told c.in_ok-later.ensures.told;
}
