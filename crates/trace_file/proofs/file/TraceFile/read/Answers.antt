use Rattle.trace_file.proofs.FileLemmas.{file_read, only_entries, reads_back}
use Rattle.trace_file.proofs.file.TraceFile.read.Goals as goal

pub returns-in-Ok-clause-only : goal.returns-in-Ok-clause-only
returns-in-Ok-clause-only c =
    only_entries c.args.text.now c.in-Ok.file
    (file_read c.args.text.now _ c.as_slice.result.now _ _ c.in-Some.kept c.in-Ok.file c.in_ok-count.ensures.ok c.in-Some.is c.as_slice.ensures.value c.in-Ok.ensures)

pub returns-in-Ok-clause-back : goal.returns-in-Ok-clause-back
returns-in-Ok-clause-back c =
    reads_back c.args.text.now c.in-Ok.file
    (file_read c.args.text.now _ c.as_slice.result.now _ _ c.in-Some.kept c.in-Ok.file c.in_ok-count.ensures.ok c.in-Some.is c.as_slice.ensures.value c.in-Ok.ensures)
