use Rattle.std.proofs.Common.{◌≡◌, ◌∙◌}
use Rattle.trace_file.proofs.Ranking.{as_many, lines_few, lines_upward}
use Rattle.trace_file.specs.Files.{lines_of}
use Rattle.trace_file.proofs.file.finished.Goals as goal

pub invariant_of-result : goal.invariant_of-result
invariant_of-result c =
    let names : c.in_ok-names.names.items ≡ c.args.lines.now = c.in_ok-names.ensures.items in
    let different : c.in_ok-names.names.items ≡ lines_of c.requires.0 = names ∙ c.requires.2 in (
      lines_upward c.requires.0 c.in_ok-names.names.items different,
      lines_few c.requires.0 c.in_ok-names.names.items c.requires.1 different,
      as_many c.requires.0 c.args.kept c.args.lines.now c.in_ok-trace.trace.events c.requires.3 (c.in_ok-trace.ensures.names ∙ c.deref.ensures.value),
      rw names c.in_ok-trace.ensures.within,
    )
