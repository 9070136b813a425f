use Rattle.std.proofs.Common.{◌≡◌, ℕ, List}
use Rattle.store_trace.specs.declared.event.Event.{Event}
use Rattle.routine_judge.specs.Rules.{judgement_view}
use Rattle.routine_judge.specs.Verdicts.{IsJudged, judged_from}
use Rattle.routine_judge.specs.Views.{JudgeView}
use Rattle.verdict.specs.GoingOn.{settled}
use Rattle.verdict.specs.Rows.{end_of}
use Rattle.crash_test.specs.Judging.{view_on}
use Rattle.crash_test.proofs.Telling.{told_as, told_nothing, verdict_as}
use Rattle.crash_test.proofs.judging.judge_events.Goals as goal

pub returns-clause-ok : goal.returns-clause-ok
returns-clause-ok g c =
    let part = c.in_ok-part.part in
    let made = c.in_ok-part.ensures in
    let start : List (List ℕ) = c.args.events.medium.now in
    let events : List Event = c.args.events.trace.now.events in
    let work = c.args.work in
    let view = view_on start (judgement_view c.args.judgement) events in
    let same : part.run ≡ view = made.run in
    let until = end_of events work.last in
    let from = judged_from events work.first until in
    let ends : part.end ≡ until = made.end in
    let begins : part.first ≡ from = rw ends at made.first in
    record {
      sound = made.sound;
      begins = made.begins;
      verdict_is = verdict_as work.goes_on (λ (v : JudgeView). IsJudged v) (λ (v : JudgeView). v.events) part.run view part.first from part.end until
          c.in_ok-judge_watched.field-0 same begins ends c.in_ok-judge_watched.ensures.ok;
    }

pub returns-clause-told : goal.returns-clause-told
returns-clause-told g c =
    let part = c.in_ok-part.part in
    let made = c.in_ok-part.ensures in
    let start : List (List ℕ) = c.args.events.medium.now in
    let events : List Event = c.args.events.trace.now.events in
    let work = c.args.work in
    let view = view_on start (judgement_view c.args.judgement) events in
    let same : part.run ≡ view = made.run in
    let until = end_of events work.last in
    let from = judged_from events work.first until in
    let ends : part.end ≡ until = made.end in
    let begins : part.first ≡ from = rw ends at made.first in
    told_as g.P.Progress.hears (λ (v : JudgeView). settled work.goes_on (IsJudged v)) (λ (v : JudgeView). v.events) part.run view part.first from part.end until
    c.args.progress.now c.judge_watched.new.progress same begins ends c.judge_watched.ensures.told

pub returns-in_err-judge_watched-clause-told : goal.returns-in_err-judge_watched-clause-told
returns-in_err-judge_watched-clause-told g c =
    let part = c.in_ok-part.part in
    let made = c.in_ok-part.ensures in
    let start : List (List ℕ) = c.args.events.medium.now in
    let events : List Event = c.args.events.trace.now.events in
    let work = c.args.work in
    let view = view_on start (judgement_view c.args.judgement) events in
    let same : part.run ≡ view = made.run in
    let until = end_of events work.last in
    let from = judged_from events work.first until in
    let ends : part.end ≡ until = made.end in
    let begins : part.first ≡ from = rw ends at made.first in
    told_as g.P.Progress.hears (λ (v : JudgeView). settled work.goes_on (IsJudged v)) (λ (v : JudgeView). v.events) part.run view part.first from part.end until
    c.args.progress.now c.judge_watched.new.progress same begins ends c.judge_watched.ensures.told

pub returns-in_err-part-clause-told : goal.returns-in_err-part-clause-told
returns-in_err-part-clause-told g c =
    let start : List (List ℕ) = c.args.events.medium.now in
    let events : List Event = c.args.events.trace.now.events in
    let view = view_on start (judgement_view c.args.judgement) events in
    let until = end_of events c.args.work.last in
    told_nothing g.P.Progress.hears (settled c.args.work.goes_on (IsJudged view)) events (judged_from events c.args.work.first until) until c.args.progress.now
