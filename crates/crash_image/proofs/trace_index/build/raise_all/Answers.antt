use Rattle.std.proofs.Common.{◌<◌, List, length, get_or, length-set, ap, ◌∙◌, arith}
use Rattle.crash_image.proofs.Raising.{any_default, raised_all, raising_more}
use Rattle.crash_image.specs.Lines.{LineView, unstored}
use Rattle.crash_image.specs.declared.trace_index.build.Clean.{Clean}
use Rattle.crash_image.proofs.trace_index.build.raise_all.Goals as goal

pub loop-clean-preserved : goal.loop-clean-preserved
loop-clean-preserved c =
    let raised = c.in_ok-raise.ensures in (
      ap (λ (lines : List LineView). length lines) raised.set ∙ length-set c.loop-clean.lines _ raised.line ∙ c.loop-clean.invariant.0,
      λ start past hart w lines.
          let none : Clean = record { line = 0; stores = 0 } in
          let cleans = c.args.cleans.now in
          let at = c.loop-clean.clean-index in
          let h : at < length cleans = omega arith in
          rw raised.set (raising_more start past c.args.event hart cleans at c.loop-clean.lines (get_or cleans at none) unstored raised.line
          (λ d. any_default cleans at d none h) (w.there at none h) (w.made at none h) raised.stores raised.raises
          (c.loop-clean.invariant.1 start past hart w lines)),
    )

pub returns : goal.returns
returns c = λ start past hart e w lines.
    raised_all start past c.args.event hart c.args.cleans.now c.loop-clean.clean-index c.loop-clean.lines e w c.loop-clean-test.false
    (c.loop-clean.invariant.1 start past hart w lines)
