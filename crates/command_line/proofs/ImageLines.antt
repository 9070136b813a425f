-- The lines of an image's losses with another word in front of its schedule.
use Rattle.std.proofs.Common.{◌≡◌, ◌∙◌, ◌++◌, ◌==◌, ℕ, Bool, true, false, List, [], Option, Some, None, Result, Ok, Err, ap, length, refl, sym}
use Rattle.std.specs.List.{flat_map}
use Rattle.std.specs.Prelude.{IfOk, String, codes, string_bytes}
use Rattle.std.specs.declared.alloc.AllocError.{AllocError}
use Rattle.std.specs.declared.alloc.Global.{Global}
use Rattle.std.proofs.lemmas.Bool.{eqb-true}
use Rattle.std.proofs.lemmas.List.{append_assoc, nil_from_length}
use Rattle.crash_test.specs.declared.losses.ExplainedImage.{ExplainedImage}
use Rattle.machine.specs.declared.schedule.items.Item.{Item}
use Rattle.machine.specs.declared.run_trace.traced_event.TracedEvent.{TracedEvent}
use Rattle.report.specs.LossesEvents.{event_text}
use Rattle.report.specs.LossesJson.{event_object, kept_object, lost_object, schedule_json, unread_object}
use Rattle.report.specs.Mends.{mend_line}
use Rattle.report.specs.MendsJson.{mend_object}
use Rattle.report.specs.Places.{KnownOrigin}
use Rattle.report.specs.Why.{kept_line, lost_line, schedule_text, spaced, unread_line}
use Rattle.command_line.specs.Naming.{known_schedule}
use Rattle.command_line.specs.Reasons.{image_losses, told_losses}

-- the end of four texts one behind the other
last_of_four : (lost kept unread last : List ℕ) → lost ++ (kept ++ (unread ++ last)) ≡ (lost ++ (kept ++ unread)) ++ last
last_of_four lost kept unread last =
    ap (λ (l : List ℕ). lost ++ l) (sym (append_assoc kept unread last)) ∙ sym (append_assoc lost (kept ++ unread) last)

-- and of five
last_of_five : (lost kept mends unread last : List ℕ) →
    lost ++ (kept ++ (mends ++ (unread ++ last))) ≡ (lost ++ (kept ++ (mends ++ unread))) ++ last
last_of_five lost kept mends unread last =
    ap (λ (l : List ℕ). lost ++ l) (last_of_four kept mends unread last) ∙ sym (append_assoc lost (kept ++ (mends ++ unread)) last)

-- the schedule as it is told, where one is known
schedule_shown : (schedule : Option (List Item)) → schedule_json schedule ≡ known_schedule true (codes "schedule") schedule
schedule_shown (Some schedule) = refl
schedule_shown None = refl

schedule_said : (schedule : Option (List Item)) → schedule_text schedule ≡ known_schedule false (codes "schedule") schedule
schedule_said (Some schedule) = refl
schedule_said None = refl

-- a space stands in front of items alone
pub spaced_none : (items : List ℕ) → (length items == 0) ≡ true → spaced items ≡ []
spaced_none items none = ap spaced (nil_from_length items (eqb-true (length items) 0 none))

-- they end with the schedule
pub losses_end : (json : Bool) (lines : ℕ → KnownOrigin) (traced : List TracedEvent) (explained : ExplainedImage) →
    (front : List ℕ) × (told_losses json lines traced explained ≡ front ++ known_schedule json (codes "schedule") explained.schedule)
losses_end true lines traced explained =
    let lost : List ℕ = flat_map (lost_object ([]) (event_object lines traced)) explained.told.read.lost.items in
    let kept : List ℕ = flat_map (kept_object (event_object lines traced)) explained.told.read.kept.items in
    let mends : List ℕ = flat_map (mend_object (event_object lines traced)) explained.told.read.mends.items in
    let unread : List ℕ = unread_object explained.told.unread in (
      lost ++ (kept ++ (mends ++ unread)),
      ap (λ (last : List ℕ). lost ++ (kept ++ (mends ++ (unread ++ last)))) (schedule_shown explained.schedule)
          ∙ last_of_five lost kept mends unread (known_schedule true (codes "schedule") explained.schedule),
    )
losses_end false lines traced explained =
    let lost : List ℕ = flat_map (lost_line (event_text lines traced)) explained.told.read.lost.items in
    let kept : List ℕ = flat_map (kept_line (event_text lines traced)) explained.told.read.kept.items in
    let mends : List ℕ = flat_map (mend_line (event_text lines traced)) explained.told.read.mends.items in
    let unread : List ℕ = unread_line explained.told.unread in (
      lost ++ (kept ++ (mends ++ unread)),
      ap (λ (last : List ℕ). lost ++ (kept ++ (mends ++ (unread ++ last)))) (schedule_said explained.schedule)
          ∙ last_of_five lost kept mends unread (known_schedule false (codes "schedule") explained.schedule),
    )

image_behind : (json : Bool) (lines : ℕ → KnownOrigin) (traced : List TracedEvent) (explained : ExplainedImage) (changed : List ℕ) →
    ((front : List ℕ) → told_losses json lines traced explained ≡ front ++ known_schedule json (codes "schedule") explained.schedule →
    changed ≡ front ++ known_schedule json (codes "image") explained.schedule) → changed ≡ image_losses json lines traced explained
image_behind true lines traced explained changed is =
    let lost : List ℕ = flat_map (lost_object [] (event_object lines traced)) explained.told.read.lost.items in
    let kept : List ℕ = flat_map (kept_object (event_object lines traced)) explained.told.read.kept.items in
    let mends : List ℕ = flat_map (mend_object (event_object lines traced)) explained.told.read.mends.items in
    let unread : List ℕ = unread_object explained.told.unread in
    is (lost ++ (kept ++ (mends ++ unread))) (ap (λ (last : List ℕ). lost ++ (kept ++ (mends ++ (unread ++ last)))) (schedule_shown explained.schedule)
    ∙ last_of_five lost kept mends unread (known_schedule true (codes "schedule") explained.schedule))
    ∙ sym (last_of_five lost kept mends unread (known_schedule true (codes "image") explained.schedule))
image_behind false lines traced explained changed is =
    let lost : List ℕ = flat_map (lost_line (event_text lines traced)) explained.told.read.lost.items in
    let kept : List ℕ = flat_map (kept_line (event_text lines traced)) explained.told.read.kept.items in
    let mends : List ℕ = flat_map (mend_line (event_text lines traced)) explained.told.read.mends.items in
    let unread : List ℕ = unread_line explained.told.unread in
    is (lost ++ (kept ++ (mends ++ unread))) (ap (λ (last : List ℕ). lost ++ (kept ++ (mends ++ (unread ++ last)))) (schedule_said explained.schedule)
    ∙ last_of_five lost kept mends unread (known_schedule false (codes "schedule") explained.schedule))
    ∙ sym (last_of_five lost kept mends unread (known_schedule false (codes "image") explained.schedule))

-- a text that has the image's schedule in place of the other has the lines of the image
pub image_text_behind : (json : Bool) (lines : ℕ → KnownOrigin) (traced : List TracedEvent) (explained : ExplainedImage) (outcome : Result (String Global) AllocError) →
    IfOk outcome (λ changed. (front : List ℕ) → told_losses json lines traced explained ≡ front ++ known_schedule json (codes "schedule") explained.schedule →
    string_bytes changed ≡ front ++ known_schedule json (codes "image") explained.schedule) →
    IfOk outcome (λ text. string_bytes text ≡ image_losses json lines traced explained)
image_text_behind json lines traced explained (Ok changed) is = image_behind json lines traced explained (string_bytes changed) is
image_text_behind json lines traced explained (Err refused) is = tt
