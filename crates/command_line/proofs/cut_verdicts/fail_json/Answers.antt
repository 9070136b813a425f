use Rattle.command_line.proofs.CutLines.{fail_told}
use Rattle.command_line.proofs.Texts.{first_rest}
use Rattle.command_line.proofs.cut_verdicts.fail_json.Goals as goal

pub returns : goal.returns
returns c =
    fail_told c.args.chain.now c.link-item.result _ c.args.cause.now c.format.result
    (first_rest c.args.chain.now c.link-item.result c.in-len1-up.len_at_least c.link-item.is) (rw c.in_ok-links.ensures at c.format.ensures.ok)
