use Rattle.std.proofs.Common.{◌≡◌, ◌+◌, length, subst}
use Rattle.image_check.specs.RunViews.{RunView}
use Rattle.image_check.proofs.Passing.{all_pass, part_of}
use Rattle.image_check.proofs.Single.{verdict_once}
use Rattle.image_check.specs.Verdicts.{IsVerdict}
use Rattle.image_check.specs.declared.cause.Cause.{Cause}
use Rattle.verdict.specs.declared.moment_verdict.verdict.Verdict.{Verdict}
use Rattle.verdict.specs.declared.moment_verdict.verdict.Verdict.TheVariants as runs
use Rattle.image_check.proofs.checking.check_parallel.Goals as goal

pub returns-clause-ok : goal.returns-clause-ok
returns-clause-ok g c =
    let run : RunView = record { plan = c.args.plan.now.operations; start = c.args.medium.now; events = c.args.trace.now.events } in
    let part = c.in_ok-part.part in
    part_of part.run run part.first 0 part.end (length c.args.trace.now.events + 1) c.in_ok-judge.field-0 c.in_ok-part.ensures.run c.in_ok-part.ensures.first
    c.in_ok-part.ensures.end c.in_ok-judge.ensures

pub returns-clause-one : goal.returns-clause-one
returns-clause-one g c = λ other is.
    verdict_once c.args.plan.now.operations c.args.medium.now c.args.trace.now.events 0 (length c.args.trace.now.events + 1) other c.in_ok-judge.field-0 is
    (returns-clause-ok g c)

pub returns-clause-pass : goal.returns-clause-pass
returns-clause-pass g c = λ moments images is.
    let same : c.in_ok-judge.field-0 ≡ runs.Pass moments images = cc in
    all_pass c.args.plan.now.operations c.args.medium.now c.args.trace.now.events moments images
    (subst (λ (v : Verdict Cause). IsVerdict c.args.plan.now.operations c.args.medium.now c.args.trace.now.events v) same (returns-clause-ok g c))
