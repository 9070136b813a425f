use Rattle.std.proofs.Common.{◌≡◌, ℕ, List}
use Rattle.store_trace.specs.declared.event.Event.{Event}
use Rattle.image_check.specs.RunViews.{RunView}
use Rattle.image_check.specs.Verdicts.{judged_at}
use Rattle.verdict.specs.GoingOn.{settled}
use Rattle.verdict.specs.Rows.{end_of}
use Rattle.crash_test.proofs.Telling.{told_as, told_nothing, verdict_as}
use Rattle.crash_test.proofs.checking.check_events.Goals as goal

pub returns-clause-ok : goal.returns-clause-ok
returns-clause-ok g c =
    let part = c.in_ok-part.part in
    let made = c.in_ok-part.ensures in
    let start : List (List ℕ) = c.args.events.medium.now in
    let events : List Event = c.args.events.trace.now.events in
    let work = c.args.work in
    let view : RunView = record { plan = c.args.plan.now.operations; start = start; events = events } in
    let same : part.run ≡ view = made.run in
    let end : part.end ≡ end_of events work.last = made.end in
    record {
      sound = made.sound;
      verdict_is = verdict_as work.goes_on (λ (v : RunView). judged_at v.plan v.start v.events) (λ (v : RunView). v.events) part.run view part.first work.first
          part.end (end_of events work.last) c.in_ok-judge_watched.field-0 same made.first end c.in_ok-judge_watched.ensures.ok;
    }

pub returns-clause-told : goal.returns-clause-told
returns-clause-told g c =
    let part = c.in_ok-part.part in
    let made = c.in_ok-part.ensures in
    let start : List (List ℕ) = c.args.events.medium.now in
    let events : List Event = c.args.events.trace.now.events in
    let work = c.args.work in
    let view : RunView = record { plan = c.args.plan.now.operations; start = start; events = events } in
    let same : part.run ≡ view = made.run in
    let end : part.end ≡ end_of events work.last = made.end in
    told_as g.P.Progress.hears (λ (v : RunView). settled work.goes_on (judged_at v.plan v.start v.events)) (λ (v : RunView). v.events) part.run view part.first work.first
    part.end (end_of events work.last) c.args.progress.now c.judge_watched.new.progress same made.first end c.judge_watched.ensures.told

pub returns-in_err-judge_watched-clause-told : goal.returns-in_err-judge_watched-clause-told
returns-in_err-judge_watched-clause-told g c =
    let part = c.in_ok-part.part in
    let made = c.in_ok-part.ensures in
    let start : List (List ℕ) = c.args.events.medium.now in
    let events : List Event = c.args.events.trace.now.events in
    let work = c.args.work in
    let view : RunView = record { plan = c.args.plan.now.operations; start = start; events = events } in
    let same : part.run ≡ view = made.run in
    let end : part.end ≡ end_of events work.last = made.end in
    told_as g.P.Progress.hears (λ (v : RunView). settled work.goes_on (judged_at v.plan v.start v.events)) (λ (v : RunView). v.events) part.run view part.first work.first
    part.end (end_of events work.last) c.args.progress.now c.judge_watched.new.progress same made.first end c.judge_watched.ensures.told

pub returns-in_err-part-clause-told : goal.returns-in_err-part-clause-told
returns-in_err-part-clause-told g c =
    let start : List (List ℕ) = c.args.events.medium.now in
    let events : List Event = c.args.events.trace.now.events in
    told_nothing g.P.Progress.hears (settled c.args.work.goes_on (judged_at c.args.plan.now.operations start events)) events c.args.work.first
    (end_of events c.args.work.last) c.args.progress.now
