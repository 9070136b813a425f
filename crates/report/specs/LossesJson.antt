-- What is printed of stores that a power cut may lose as JSON: an object a line.
use Rattle.std.specs.Prelude.{ℕ, ◌==◌, List, [], ◌++◌, Option, Some, None, codes, decimal, if◌then◌else◌}
use Rattle.std.specs.List.{flat_map}
use Rattle.durability.specs.declared.cause.Cause.{Cause}
use Rattle.durability.specs.declared.cause.Cause.TheVariants.{NeverCleaned, CleanedTooLate, NeverFenced, FencedTooLate, FencedByAnother}
use Rattle.durability.specs.declared.cut.Kept.{Kept}
use Rattle.durability.specs.declared.cut.Lost.{Lost}
use Rattle.durability.specs.declared.cut.ToldCut.{ToldCut}
use Rattle.durability.specs.declared.ends.EndLoss.{EndLoss}
use Rattle.durability.specs.declared.ends.Unpersisted.{Unpersisted}
use Rattle.report.specs.Json.{null, object_end, pc_members}
use Rattle.report.specs.Places.{KnownOrigin, KnownPlace}
use Rattle.machine.specs.declared.run_trace.traced_event.TracedEvent.{TracedEvent}
use Rattle.machine.specs.Joined.{joined, text_of}
use Rattle.machine.specs.declared.schedule.items.Item.{Item}
use Rattle.report.specs.LossesEvents.{place_in}
use Rattle.report.specs.MendsJson.{mend_object}
use Rattle.report.specs.Unpersisted.{count_of}

-- `{"event":N,"hart":H,"pc":"0xP","source_line":L}`, with what else is known of the pc; each but N is `null` where the run has no such event
abbrev pub object_of : ℕ → Option KnownPlace → List ℕ
object_of number None = codes "{\"event\":" ++ (decimal number ++ codes ",\"hart\":null,\"pc\":null,\"source_line\":null}")
object_of number (Some place) = codes "{\"event\":" ++ (decimal number
    ++ (codes ",\"hart\":" ++ (decimal place.hart ++ (codes "," ++ (pc_members place.at ++ codes "}")))))

-- the object of event n of a run, by what is known of each pc
abbrev pub event_object : (ℕ → KnownOrigin) → List TracedEvent → ℕ → List ℕ
event_object origins traced n = object_of n (place_in origins traced n)

-- the members that tell a cause: its words, and the objects of its clean, of another hart's clean that the fence completes, and of its fence
abbrev pub members_of : List ℕ → List ℕ → List ℕ → List ℕ → List ℕ
members_of words clean completed fence = codes "\"cause\":\"" ++ (words ++ (codes "\",\"clean\":" ++ (clean
    ++ (codes ",\"completed\":" ++ (completed ++ (codes ",\"fence\":" ++ fence))))))

-- why a store can be lost, by the object of each event
abbrev pub cause_members : (ℕ → List ℕ) → Cause → List ℕ
cause_members event NeverCleaned = members_of (codes "never cleaned") null null null
cause_members event (CleanedTooLate clean) = members_of (codes "cleaned too late") (event clean) null null
cause_members event (NeverFenced clean) = members_of (codes "never fenced") (event clean) null null
cause_members event (FencedTooLate clean fence) = members_of (codes "fenced too late") (event clean) null (event fence)
cause_members event (FencedByAnother clean hart completed fence) =
    members_of (codes "fenced too late") (event clean) (event completed) (event fence)

-- `"cache_line":L,"store":E` and the cause
abbrev pub loss_members : (ℕ → List ℕ) → Lost → List ℕ
loss_members event lost = codes "\"cache_line\":" ++ (decimal lost.line
    ++ (codes ",\"store\":" ++ (event lost.store ++ (codes "," ++ cause_members event lost.cause))))

-- the object of a lost store, with the members that tell when it had to be durable in front
abbrev pub lost_object : List ℕ → (ℕ → List ℕ) → Lost → List ℕ
lost_object when event lost = codes "{\"kind\":\"lost\"," ++ (when ++ (loss_members event lost ++ object_end))

-- `"operation":"N","end":E,`: when that operation ended
abbrev pub end_members : ℕ → ℕ → List ℕ
end_members operation end = codes "\"operation\":\"" ++ (decimal operation ++ (codes "\",\"end\":" ++ (decimal end ++ codes ",")))

-- when the run ended
abbrev pub outside_members : List ℕ
outside_members = codes "\"operation\":null,\"end\":null,"

-- the object of a store that wasn't durable when its operation ended
abbrev pub end_object : (ℕ → List ℕ) → EndLoss → List ℕ
end_object event loss = lost_object (end_members loss.operation loss.end) event loss.lost

-- an object for each store, and one with their number
abbrev pub unpersisted_json : (ℕ → List ℕ) → Unpersisted → List ℕ
unpersisted_json event told = flat_map (end_object event) told.ends.items ++ (flat_map (lost_object outside_members event) told.outside.items
    ++ (codes "{\"kind\":\"unpersisted\",\"stores\":" ++ (decimal (count_of told) ++ object_end)))

-- `{"kind":"kept","cache_line":L,"store":E}`
abbrev pub kept_object : (ℕ → List ℕ) → Kept → List ℕ
kept_object event kept =
    codes "{\"kind\":\"kept\",\"cache_line\":" ++ (decimal kept.line ++ (codes ",\"store\":" ++ (event kept.store ++ object_end)))

-- how many lines that recovery doesn't read lack a store, where some do
abbrev pub unread_object : ℕ → List ℕ
unread_object unread =
    if unread == 0 then [] else codes "{\"kind\":\"unread\",\"cache_lines\":" ++ (decimal unread ++ object_end)

-- the items of a schedule, none of whose characters JSON escapes
abbrev pub schedule_object : List Item → List ℕ
schedule_object schedule = codes "{\"kind\":\"schedule\",\"items\":\"" ++ (text_of (joined schedule) ++ (codes "\"" ++ object_end))

-- that object where a schedule is known
abbrev pub schedule_json : Option (List Item) → List ℕ
schedule_json (Some schedule) = schedule_object schedule
schedule_json None = []

-- an object for each lost line, for each kept one and for each mend, the number of the other lines, and the schedule where one is known
abbrev pub why_json : (ℕ → List ℕ) → ToldCut → ℕ → Option (List Item) → List ℕ
why_json event told unread schedule = flat_map (lost_object [] event) told.lost.items ++ (flat_map (kept_object event) told.kept.items
    ++ (flat_map (mend_object event) told.mends.items ++ (unread_object unread ++ schedule_json schedule)))
