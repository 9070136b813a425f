use Rattle.std.proofs.Common.{◌≤◌, ◌∙◌, ap, length, take, subst, sym}
use Rattle.line_memory.specs.Lines.{IsMedium}
use Rattle.std.specs.Result.{result_ok}
use Rattle.crash_image.specs.TraceIndexView.{IndexView}
use Rattle.nova_log.specs.Volumes.{volume_of}
use Rattle.image_check.specs.Growth.{AreOutcomes}
use Rattle.image_check.specs.Images.{IsFoundBy}
use Rattle.image_check.specs.RunViews.{RunView}
use Rattle.image_check.specs.Verdicts.{IsMomentVerdict}
use Rattle.store_trace.specs.History.{at_moment}
use Rattle.image_check.proofs.Apart.{sound_apart}
use Rattle.image_check.proofs.Leaving.{kept_as}
use Rattle.image_check.proofs.Opening.{images_whole, of_same_numbers, opened_moment}
use Rattle.image_check.proofs.moment_judge.open_at.Goals as goal

pub new-cuts-requires-clause-whole : goal.new-cuts-requires-clause-whole
new-cuts-requires-clause-whole g c =
    let run = c.run.inside in
    images_whole run.index.start run.index.events run.trace.now.events c.args.standing.now.moment c.run.invariant.4
    (subst IsMedium (sym c.run.invariant.3) c.run.invariant.5) c.run.invariant.6

pub open_moment-requires-clause-alike : goal.open_moment-requires-clause-alike
open_moment-requires-clause-alike g c κs within = λ k other found same f.
    let cuts = c.new-cuts.result in
    of_same_numbers (λ medium. IsFoundBy c.run.inside.plan.now.operations c.args.standing.now.outcomes medium found)
    cuts.index.now.start (at_moment cuts.index.now.events cuts.moment) k other same f

pub open_moment-requires-clause-fits : goal.open_moment-requires-clause-fits
open_moment-requires-clause-fits g c κs within =
    let made = c.new-cuts.ensures in
    let run = c.run.inside in
    let standing = c.args.standing.now in
    kept_as c.args.run.now.start c.new-cuts.result.index.now.start c.args.run.now.events c.new-cuts.result.index.now.events standing.moment c.new-cuts.result.moment standing.workspace.kept
    (ap (λ (v : IndexView). v.start) made.index ∙ c.run.invariant.3 ∙ ap (λ (v : RunView). v.start) c.run.view_is)
    (ap (λ (v : IndexView). v.events) made.index ∙ c.run.invariant.4 ∙ ap (λ (v : RunView). v.events) c.run.view_is) made.moment c.requires.standing.kept

pub returns-clause-ok : goal.returns-clause-ok
returns-clause-ok g c =
    let run = c.run.inside in
    let cuts = c.new-cuts.result in
    let made = c.new-cuts.ensures in
    let outcomes = c.args.standing.now.outcomes in
    let there : c.args.standing.now.moment ≤ length run.trace.now.events =
    subst (λ (v : RunView). c.args.standing.now.moment ≤ length v.events) (sym c.run.view_is) c.requires.standing.there in
    let are : AreOutcomes run.plan.now.operations (result_ok (volume_of run.medium.now)) (take c.args.standing.now.moment run.trace.now.events) outcomes.settled outcomes.under_way.items =
    subst (λ (v : RunView). AreOutcomes v.plan (result_ok (volume_of v.start)) (take c.args.standing.now.moment v.events) outcomes.settled outcomes.under_way.items) (sym c.run.view_is)
    c.requires.standing.outcomes_are in
    subst (λ (v : RunView). IsMomentVerdict v.plan v.start (take c.args.standing.now.moment v.events) c.in_ok-verdict.verdict) c.run.view_is
    (opened_moment run.plan.now.operations outcomes cuts.index.now.start run.medium.now cuts.index.now.events run.trace.now.events
    c.args.standing.now.moment cuts.moment c.in_ok-verdict.verdict (ap (λ (v : IndexView). v.start) made.index ∙ c.run.invariant.3)
    (ap (λ (v : IndexView). v.events) made.index ∙ c.run.invariant.4) made.moment are
    (sound_apart run.plan.now.operations run.trace.now.events c.args.standing.now.moment there c.run.invariant.1) c.in_ok-verdict.ensures.ok)

pub returns-in_err-verdict-clause-kept : goal.returns-in_err-verdict-clause-kept
returns-in_err-verdict-clause-kept g c =
    let made = c.new-cuts.ensures in
    let run = c.run.inside in
    let standing = c.args.standing.now in
    kept_as c.new-cuts.result.index.now.start c.args.run.now.start c.new-cuts.result.index.now.events c.args.run.now.events c.new-cuts.result.moment standing.moment c.open_moment.new.workspace.kept
    (sym (ap (λ (v : IndexView). v.start) made.index ∙ c.run.invariant.3 ∙ ap (λ (v : RunView). v.start) c.run.view_is))
    (sym (ap (λ (v : IndexView). v.events) made.index ∙ c.run.invariant.4 ∙ ap (λ (v : RunView). v.events) c.run.view_is)) (sym made.moment) c.open_moment.ensures.fits

pub returns-clause-kept : goal.returns-clause-kept
returns-clause-kept g c =
    let made = c.new-cuts.ensures in
    let run = c.run.inside in
    let standing = c.args.standing.now in
    kept_as c.new-cuts.result.index.now.start c.args.run.now.start c.new-cuts.result.index.now.events c.args.run.now.events c.new-cuts.result.moment standing.moment c.open_moment.new.workspace.kept
    (sym (ap (λ (v : IndexView). v.start) made.index ∙ c.run.invariant.3 ∙ ap (λ (v : RunView). v.start) c.run.view_is))
    (sym (ap (λ (v : IndexView). v.events) made.index ∙ c.run.invariant.4 ∙ ap (λ (v : RunView). v.events) c.run.view_is)) (sym made.moment) c.open_moment.ensures.fits
