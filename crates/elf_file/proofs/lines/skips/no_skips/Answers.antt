use Rattle.elf_file.proofs.Skipping.{own_done, own_more, own_none}
use Rattle.elf_file.proofs.lines.skips.no_skips.Goals as goal

pub loop-at-init : goal.loop-at-init
loop-at-init c = own_none c.new-skips.result.items c.new-skips.ensures.items

pub loop-at-preserved : goal.loop-at-preserved
loop-at-preserved c = own_more c.loop-at.skips.items c.push.new.self.items c.loop-at.at c.in_ok-push.ensures.items c.loop-at.invariant

pub returns : goal.returns
returns c = own_done c.loop-at.skips.items c.loop-at.at c.args.count c.loop-at-test.false c.loop-at.auto.at-end c.loop-at.invariant
