-- One power cut more.
use Rattle.std.proofs.Common.{◌∙◌, arith}
use Rattle.command_line.specs.CutReasons.{cut_told}
use Rattle.command_line.proofs.Texts.{numbered_all, numbered_more}
use Rattle.command_line.proofs.cut_reasons.chain_told.Goals as goal

pub loop-number-preserved : goal.loop-number-preserved
loop-number-preserved c =
    numbered_more (cut_told c.args.json c.args.program.now c.args.recovery.now) c.args.cuts.now c.loop-number.number c.index-cuts-number.result _ _ _
    c.loop-number-test.true c.index-cuts-number.is c.loop-number.invariant (rw c.file_of-file.ensures.file at c.in_ok-lines.ensures)
    (rw c.as_str.ensures.value at c.in_ok-push_str.ensures.bytes)

pub returns : goal.returns
returns c =
    c.loop-number.invariant ∙ numbered_all (cut_told c.args.json c.args.program.now c.args.recovery.now) c.args.cuts.now c.loop-number.number
    (omega (arith, c.loop-number-test.false))
