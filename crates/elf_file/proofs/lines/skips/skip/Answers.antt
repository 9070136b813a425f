use Rattle.std.proofs.Common.{refl}
use Rattle.elf_file.proofs.Skipping.{way_begun, way_on}
use Rattle.elf_file.proofs.lines.skips.skip.Goals as goal

pub loop-skips-init : goal.loop-skips-init
loop-skips-init c = way_begun c.args.skips.now c.args.from c.requires.0 c.requires.1

pub loop-skips-preserved : goal.loop-skips-preserved
loop-skips-preserved c =
    way_on c.args.skips.now c.loop-skips.skips c.args.from c.loop-skips.at _ _ refl refl c.loop-skips.invariant

pub returns-clause-within : goal.returns-clause-within
returns-clause-within c = (c.loop-skips.invariant.behind, c.loop-skips.invariant.within)

pub returns-clause-full : goal.returns-clause-full
returns-clause-full c = c.loop-skips.invariant.full
