use Rattle.std.proofs.Common.{◌-◌, drop, length, rules, take}
use Rattle.std.proofs.Output.{has_written_append, has_written_of_eq}
use Rattle.text.proofs.Written.{one_more_written}
use Rattle.text.proofs.image_name.writer.CutDisplay.fmt.Goals as goal

pub loop-entry-preserved : goal.loop-entry-preserved
loop-entry-preserved g c =
    let begun = c.loop-entry.invariant in
    let entries = c.entries.result.now in
    let rest = take (length entries - 1) (drop 1 entries) in (
      begun.0,
      begun.1,
      λ plain.
          has_written_of_eq _ _ _ _ _ (one_more_written begun.0 rest c.loop-entry.entry-index (0, 0) c.loop-entry-test.true)
          (has_written_append _ _ _ _ _ _ (begun.2 plain) (search rules)),
    )
