-- What is printed of a run's needless cleans and fences as JSON: an object a line.
use Rattle.std.specs.Prelude.{ℕ, List, ◌++◌, Option, codes, decimal}
use Rattle.std.specs.Global.{Vec}
use Rattle.std.specs.List.{count_by}
use Rattle.durability.specs.Words.{words_of}
use Rattle.durability.specs.declared.redundant.reason.Reason.{Reason}
use Rattle.report.specs.Events.{KnownEvent, whole}
use Rattle.report.specs.Json.{event_members, number_or_null, object_end, pc_members}
use Rattle.machine.specs.declared.run_trace.traced_event.TracedEvent.{TracedEvent}
use Rattle.report.specs.Uses.{Always, Judged, is_unfenced, is_use, is_vain}
use Rattle.report.specs.Places.{KnownOrigin}
use Rattle.report.specs.Waste.{IsWaste, KnownAlways, shown_always}

-- the object of an event as the trace has it, and why it is needless
abbrev pub needless_object : ℕ → KnownEvent → Reason → List ℕ
needless_object number one reason = codes "{" ++ (event_members number one
    ++ (codes ",\"reason\":\"" ++ (words_of reason ++ (codes "\"" ++ object_end))))

-- by what is known of the event of each number
abbrev pub reason_object : (ℕ → TracedEvent → KnownEvent) → ℕ → TracedEvent → Reason → List ℕ
reason_object known number traced reason = needless_object number (known number traced) reason

-- `"kind":"always","hart":H,"pc":"0xP","source_line":L,"count":N`, with what else is known of the pc, the hart being `null` where several made them
abbrev pub always_members : KnownAlways → List ℕ
always_members one = codes "\"kind\":\"always\",\"hart\":" ++ (number_or_null one.hart
    ++ (codes "," ++ (pc_members one.at ++ (codes ",\"count\":" ++ decimal one.count))))

abbrev pub always_object : (ℕ → KnownOrigin) → Always → List ℕ
always_object origins one = codes "{" ++ (always_members (shown_always origins one) ++ object_end)

-- `{"kind":"needless","needless":N,"of":M,"unfenced":K}`
abbrev pub summary_object : List Judged → List ℕ
summary_object all = codes "{\"kind\":\"needless\",\"needless\":" ++ (decimal (count_by is_vain all)
    ++ (codes ",\"of\":" ++ (decimal (count_by is_use all) ++ (codes ",\"unfenced\":" ++ (decimal (count_by is_unfenced all) ++ object_end)))))

-- an object for each of these, the events whole
abbrev pub IsWasteJson : (ℕ → KnownOrigin) → Option (Vec (Vec ℕ)) → List Judged → List ℕ → Type 0
IsWasteJson origins lines all text = IsWaste (reason_object (whole origins lines)) (always_object origins) summary_object all text
