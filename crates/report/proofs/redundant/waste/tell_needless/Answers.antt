use Rattle.std.proofs.Common.{◌∙◌, ◌+◌, ◌++◌, None, [], Option, ap, get_or, string_bytes, sym}
use Rattle.std.proofs.lemmas.List.{append-nil}
use Rattle.durability.specs.declared.redundant.reason.Reason.{Reason}
use Rattle.report.specs.Places.{origin_in}
use Rattle.report.specs.Events.{KnownEvent, whole}
use Rattle.report.specs.Forms.{needless_form, reason_form}
use Rattle.report.specs.Waste.{judged_text}
use Rattle.report.proofs.Telling.{judged_all, judged_more, no_event}
use Rattle.report.proofs.redundant.waste.tell_needless.Goals as goal
use Rattle.report.proofs.redundant.waste.tell_needless.Goals.{in-Some+in_ok-tell_event, in_default}

pub loop-at-preserved : goal.loop-at-preserved
loop-at-preserved c =
    let judged = λ (r : Option Reason). judged_text (reason_form c.args.form (whole (origin_in c.args.places.now) c.args.lines.now)) (c.loop-at.at + 1) (get_or c.args.traced.now c.loop-at.at no_event) r in
    elim c.match-reasons-at.branch [
      | in-Some+in_ok-tell_event w ↦
          rw w.text-is (judged_more (reason_form c.args.form (whole (origin_in c.args.places.now) c.args.lines.now)) c.args.traced.now c.args.reasons.now c.loop-at.at no_event None _ _ _ _ c.loop-at-test.true c.requires
          c.loop-at.invariant (w.in_ok-tell_event.ensures)
          (ap (λ (one : KnownEvent). needless_form c.args.form (c.loop-at.at + 1) one w.in-Some.reason) w.whole-placed.ensures ∙ sym (ap judged w.in-Some.is)))
      | in_default w ↦
          rw w.text-is (judged_more (reason_form c.args.form (whole (origin_in c.args.places.now) c.args.lines.now)) c.args.traced.now c.args.reasons.now c.loop-at.at no_event None _ _ _ [] c.loop-at-test.true c.requires
          c.loop-at.invariant (sym (append-nil _)) (sym (ap judged w.in_default.is)))
    ]

pub returns : goal.returns
returns c =
    c.loop-at.invariant ∙ ap (λ l. string_bytes c.args.text.now ++ l) (
    judged_all (reason_form c.args.form (whole (origin_in c.args.places.now) c.args.lines.now)) c.args.traced.now c.args.reasons.now c.loop-at.at c.loop-at-test.false c.requires)
