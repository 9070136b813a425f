use Rattle.std.proofs.Common.{◌-◌, drop, length, rules, take}
use Rattle.std.proofs.Output.{has_written_append, has_written_of_eq}
use Rattle.verdict.specs.declared.moment_verdict.contents.LineContents.{LineContents}
use Rattle.verdict.proofs.Widening.{one_more_written}
use Rattle.verdict.proofs.moment_verdict.contents.WidestLinesDisplay.fmt.Goals as goal

-- a line of no contents
abbrev none : LineContents
none = record { line = 0; contents = 0 }

pub loop-one-preserved : goal.loop-one-preserved
loop-one-preserved g c =
    let begun = c.loop-one.invariant in
    let lines = c.lines.result.now in
    let rest = take (length lines - 1) (drop 1 lines) in (
      begun.0,
      begun.1,
      λ plain.
          has_written_of_eq _ _ _ _ _ (one_more_written begun.0 rest c.loop-one.one-index none c.loop-one-test.true)
          (has_written_append _ _ _ _ _ _ (begun.2 plain) (search rules)),
    )
