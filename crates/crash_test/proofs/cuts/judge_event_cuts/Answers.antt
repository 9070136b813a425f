use Rattle.std.proofs.Common.{◌≡◌, ◌∙◌, ◌+◌, ◌≤◌, ℕ, List, length, subst, sym}
use Rattle.store_trace.specs.declared.event.Event.{Event}
use Rattle.routine_judge.specs.Chains.{most_of}
use Rattle.routine_judge.specs.CutVerdicts.{IsJudgedWith}
use Rattle.routine_judge.specs.Rules.{judgement_view}
use Rattle.routine_judge.specs.Verdicts.{judged_from}
use Rattle.routine_judge.specs.Views.{JudgeView}
use Rattle.verdict.specs.GoingOn.{settled}
use Rattle.verdict.specs.Rows.{end_of}
use Rattle.crash_test.specs.Judging.{view_on}
use Rattle.crash_test.proofs.StayingRecovered.{cuts_as, end_within}
use Rattle.crash_test.proofs.Telling.{told_nothing}
use Rattle.crash_test.proofs.cuts.judge_event_cuts.Goals as goal

pub of-row-requires-clause-there : goal.of-row-requires-clause-there
of-row-requires-clause-there g c =
    let part = c.in_ok-part.part in
    let made = c.in_ok-part.ensures in
    let events : List Event = c.args.events.trace.now.events in
    subst (λ (view : JudgeView). part.end ≤ length view.events + 1) (sym made.run)
    (subst (λ (n : ℕ). n ≤ length events + 1) (sym made.end) (end_within events c.args.work.last))

pub returns-clause-ok : goal.returns-clause-ok
returns-clause-ok g c =
    let part = c.in_ok-part.part in
    let made = c.in_ok-part.ensures in
    let row = c.of-row in
    let start : List (List ℕ) = c.args.events.medium.now in
    let events : List Event = c.args.events.trace.now.events in
    let work = c.args.work in
    let view = view_on start (judgement_view c.args.judgement.judgement) events in
    let until = end_of events work.last in
    let from = judged_from events work.first until in
    let ends : part.end ≡ until = made.end in
    let begins : part.first ≡ from = rw ends at made.first in
    record {
      sound = made.sound;
      begins = made.begins;
      verdict_is = cuts_as c.args.judgement.cuts row.result.goes_on work.goes_on row.result.run.now view row.result.first from row.result.end until
          c.in_ok-judge.field-0 row.ensures.goes_on (row.ensures.run ∙ made.run) (row.ensures.first ∙ begins) (row.ensures.end ∙ ends) c.in_ok-judge.ensures.ok;
    }

pub returns-in_err-part-clause-told : goal.returns-in_err-part-clause-told
returns-in_err-part-clause-told g c =
    let start : List (List ℕ) = c.args.events.medium.now in
    let events : List Event = c.args.events.trace.now.events in
    let view = view_on start (judgement_view c.args.judgement.judgement) events in
    let until = end_of events c.args.work.last in
    told_nothing g.P.Progress.hears (settled c.args.work.goes_on (IsJudgedWith (most_of c.args.judgement.cuts) view)) events
    (judged_from events c.args.work.first until) until c.args.progress.now
