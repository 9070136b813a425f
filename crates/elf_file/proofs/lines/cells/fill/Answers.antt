use Rattle.std.proofs.Common.{◌+◌, ◌<◌, Some, length, set, arith}
use Rattle.std.proofs.lemmas.List.{length-set}
use Rattle.elf_file.proofs.Skipping.{filling_begun, filling_done, filling_on, skip_one}
use Rattle.elf_file.proofs.lines.cells.fill.Goals as goal

pub loop-at-init : goal.loop-at-init
loop-at-init c =
    let all = c.skip-at.ensures.full c.args.cells.now c.requires.2 in
    filling_begun c.args.cells.now c.skip-at.new.skips c.args.first c.args.end c.skip-at.result c.args.number c.skip-at.ensures.within.0
    c.skip-at.ensures.within.1 all.0 all.1

pub skip-at-requires-in-loop-at : goal.skip-at-requires-in-loop-at
skip-at-requires-in-loop-at c =
    let is = c.loop-at.invariant in
    let within : c.loop-at.at < length c.loop-at.cells = omega (arith, c.loop-at-test.true, c.requires.1, is.size) in
    let one = skip_one c.loop-at.cells c.loop-at.skips c.loop-at.at c.unwrap_or.result within is.are in (
      omega (arith, within, is.are.size, length-set c.loop-at.skips c.loop-at.at (c.loop-at.at + 1)),
      one.ahead,
    )

pub loop-at-preserved : goal.loop-at-preserved
loop-at-preserved c =
    let is = c.loop-at.invariant in
    let within : c.loop-at.at < length c.loop-at.cells = omega (arith, c.loop-at-test.true, c.requires.1, is.size) in
    let one = skip_one c.loop-at.cells c.loop-at.skips c.loop-at.at c.unwrap_or.result within is.are in
    let all = c.skip-at-in-loop-at.ensures.full (set c.loop-at.cells c.loop-at.at (Some c.unwrap_or.result)) one in
    filling_on c.args.cells.now c.loop-at.cells c.loop-at.skips c.skip-at-in-loop-at.new.skips c.args.first c.args.end c.loop-at.at
    c.skip-at-in-loop-at.result c.args.number c.unwrap_or.result c.unwrap_or.ensures c.loop-at-test.true (omega (arith, c.requires.1, is.size)) c.skip-at-in-loop-at.ensures.within.0
    c.skip-at-in-loop-at.ensures.within.1 all.0 all.1 is

pub returns-clause-cells : goal.returns-clause-cells
returns-clause-cells c =
    filling_done c.args.cells.now c.loop-at.cells c.loop-at.skips c.args.first c.args.end c.loop-at.at c.args.number c.loop-at-test.false
    c.loop-at.invariant

pub returns-clause-skips : goal.returns-clause-skips
returns-clause-skips c = c.loop-at.invariant.are
