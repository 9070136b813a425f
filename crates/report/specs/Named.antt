-- Causes, losses and mends with the places of their events, as they are printed.
use Rattle.std.specs.Prelude.{ℕ, List, [], ◌++◌, codes, decimal, option_map}
use Rattle.report.specs.LossesEvents.{named_text}
use Rattle.report.specs.Json.{null}
use Rattle.report.specs.LossesJson.{end_members, members_of, object_of, outside_members}
use Rattle.report.specs.MendsJson.{before_members, mend_of, no_deadline, quoted_number}
use Rattle.report.specs.Places.{known_place}
use Rattle.report.specs.declared.losses.cause.NamedCause.{NamedCause}
use Rattle.report.specs.declared.losses.cause.NamedCause.TheVariants.{NeverCleaned, CleanedTooLate, NeverFenced, FencedTooLate, FencedByAnother}
use Rattle.report.specs.declared.losses.event.NamedEvent.{NamedEvent}
use Rattle.report.specs.declared.losses.loss.NamedLoss.{NamedLoss}
use Rattle.report.specs.declared.losses.mend.NamedDeadline.{NamedDeadline}
use Rattle.report.specs.declared.losses.mend.NamedDeadline.TheVariants as deadlines
use Rattle.report.specs.declared.losses.mend.NamedMend.{NamedMend}
use Rattle.report.specs.declared.losses.mend.NamedMend.TheVariants as mends
use Rattle.report.specs.declared.losses.objects.Due.{Due}
use Rattle.report.specs.declared.losses.objects.Due.TheVariants.{AtTheCut, AtEnd, AtRunEnd}

abbrev pub named_event_text : NamedEvent → List ℕ
named_event_text event = named_text event.number (option_map known_place event.place)

abbrev pub named_cause_text : NamedCause → List ℕ
named_cause_text NeverCleaned = codes "never cleaned"
named_cause_text (CleanedTooLate clean) = codes "cleaned " ++ (named_event_text clean ++ codes ", too late")
named_cause_text (NeverFenced clean) = codes "cleaned " ++ (named_event_text clean ++ codes ", never fenced")
named_cause_text (FencedTooLate clean fence) =
    codes "cleaned " ++ (named_event_text clean ++ (codes ", fenced " ++ (named_event_text fence ++ codes ", too late")))
named_cause_text (FencedByAnother clean hart completed fence) =
    codes "cleaned " ++ (named_event_text clean ++ (codes ", not fenced by h" ++ (decimal hart ++ (codes "; cleaned " ++ (named_event_text completed
    ++ (codes ", fenced " ++ (named_event_text fence ++ codes ", too late")))))))

abbrev pub named_loss_text : NamedLoss → List ℕ
named_loss_text loss = codes "lost l" ++ (decimal loss.line
    ++ (codes " store " ++ (named_event_text loss.store ++ (codes ": " ++ named_cause_text loss.cause))))

abbrev pub named_event_object : NamedEvent → List ℕ
named_event_object event = object_of event.number (option_map known_place event.place)

abbrev pub named_cause_members : NamedCause → List ℕ
named_cause_members NeverCleaned = members_of (codes "never cleaned") null null null
named_cause_members (CleanedTooLate clean) = members_of (codes "cleaned too late") (named_event_object clean) null null
named_cause_members (NeverFenced clean) = members_of (codes "never fenced") (named_event_object clean) null null
named_cause_members (FencedTooLate clean fence) = members_of (codes "fenced too late") (named_event_object clean) null (named_event_object fence)
named_cause_members (FencedByAnother clean hart completed fence) =
    members_of (codes "fenced too late") (named_event_object clean) (named_event_object completed) (named_event_object fence)

abbrev pub named_loss_members : NamedLoss → List ℕ
named_loss_members loss = codes "\"cache_line\":" ++ (decimal loss.line
    ++ (codes ",\"store\":" ++ (named_event_object loss.store ++ (codes "," ++ named_cause_members loss.cause))))

abbrev pub due_members : Due → List ℕ
due_members AtTheCut = []
due_members (AtEnd operation end) = end_members operation end
due_members AtRunEnd = outside_members

abbrev pub named_deadline_text : NamedDeadline → List ℕ
named_deadline_text (deadlines.Kept event) = named_event_text event ++ codes " (kept)"
named_deadline_text (deadlines.End event operation) = named_event_text event ++ (codes " (end " ++ (decimal operation ++ codes ")"))
named_deadline_text (deadlines.Begin event operation) = named_event_text event ++ (codes " (begin " ++ (decimal operation ++ codes ")"))

abbrev pub named_mend_text : NamedMend → List ℕ
named_mend_text (mends.Fence behind deadline) =
    codes "a fence behind " ++ (named_event_text behind ++ (codes " and before " ++ named_deadline_text deadline))
named_mend_text (mends.CleanAndFence line behind deadline) = codes "a clean of l" ++ (decimal line ++ (codes " behind " ++ (named_event_text behind
    ++ (codes " and a fence behind it, before " ++ named_deadline_text deadline))))
named_mend_text (mends.Later store) = codes "store " ++ (named_event_text store ++ codes " comes too early or to a wrong place")
named_mend_text (mends.Earlier store) = codes "store " ++ (named_event_text store ++ codes " comes too late or to a wrong place")

abbrev pub named_deadline_members : NamedDeadline → List ℕ
named_deadline_members (deadlines.Kept event) = before_members (named_event_object event) (codes "kept") null
named_deadline_members (deadlines.End event operation) = before_members (named_event_object event) (codes "end") (quoted_number operation)
named_deadline_members (deadlines.Begin event operation) = before_members (named_event_object event) (codes "begin") (quoted_number operation)

abbrev pub named_mend_members : NamedMend → List ℕ
named_mend_members (mends.Fence behind deadline) =
    mend_of (codes "fence") null (named_event_object behind) (named_deadline_members deadline) null
named_mend_members (mends.CleanAndFence line behind deadline) =
    mend_of (codes "clean and fence") (decimal line) (named_event_object behind) (named_deadline_members deadline) null
named_mend_members (mends.Later store) = mend_of (codes "store later") null null no_deadline (named_event_object store)
named_mend_members (mends.Earlier store) = mend_of (codes "store earlier") null null no_deadline (named_event_object store)
