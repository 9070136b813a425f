use Rattle.std.proofs.Common.{arith}
use Rattle.trace_file.proofs.Drafting.{one_more_read, reading_upward}
use Rattle.trace_file.proofs.reader.gather.Goals as goal

pub admitted_line-requires-clause-upward : goal.admitted_line-requires-clause-upward
admitted_line-requires-clause-upward c = reading_upward _ _ _ _ _ c.lines.invariant.0

pub lines-preserved : goal.lines-preserved
lines-preserved c =
    let admitted = rw c.in-Ok-Event.field-0-is at c.in-Ok-Event.ensures.ok in (
      one_more_read _ _ _ _ _ _ _ _ _ _ c.lines.invariant.0 admitted.0 admitted.1 c.with_event-kept.ensures,
      omega (arith, admitted.1.admissible.few),
    )
