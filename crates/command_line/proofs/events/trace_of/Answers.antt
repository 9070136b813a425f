-- Where memory for the copy of the places is refused, the text is a trace file.
use Rattle.std.proofs.Common.{◌∙◌, Result, Err, MatchResult, ap, subst, sym}
use Rattle.std.proofs.lemmas.Result.{err_from_is_err_and}
use Rattle.trace_file.specs.declared.file.RankedTrace.{RankedTrace}
use Rattle.command_line.proofs.TraceFiles.{not_copied}
use Rattle.command_line.specs.Failures.{failure_of_trace}
use Rattle.command_line.specs.Steps.{Tells}
use Rattle.command_line.specs.Traces.{IsReadFrom, IsTraceFault}
use Rattle.command_line.specs.declared.failure.Failure.{Failure}
use Rattle.command_line.proofs.events.trace_of.Goals as goal

pub returns-in_err-into_ranked-clause-says : goal.returns-in_err-into_ranked-clause-says
returns-in_err-into_ranked-clause-says c =
    let text = c.args.text.now in
    let failed = err_from_is_err_and c.from_residual-in_err-into_ranked.result c.from_residual-in_err-into_ranked.ensures.1 in
    record {
      says = subst (λ (outcome : Result RankedTrace Failure). MatchResult outcome (IsReadFrom text) (Tells (IsTraceFault text) failure_of_trace))
          (sym (failed.1 ∙ ap (λ failure. Err failure) failed.2)) (not_copied text c.in_ok-file.ensures.ok.0 c.in_ok-file.ensures.ok.1);
    }
