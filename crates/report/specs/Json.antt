-- What is printed of a run's events as JSON: an object a line.
use Rattle.std.specs.Prelude.{ℕ, ◌%◌, ◌^◌, ◌*◌, List, [], ◌++◌, Option, Some, None, codes, decimal, drop, length}
use Rattle.std.specs.List.{enumerate_from, flat_map}
use Rattle.hart.specs.HartLines.{hexadecimal}
use Rattle.machine.specs.declared.run_trace.traced_event.TracedEvent.{TracedEvent}
use Rattle.store_trace.specs.declared.event.Event.{Event}
use Rattle.store_trace.specs.declared.event.Event.TheVariants.{Store, Clean, Fence, Begin, End}
use Rattle.report.specs.Events.{KnownEvent, hart_of, kind_of, placed}
use Rattle.report.specs.Places.{InFile, InFunction, KnownCode, KnownOrigin, executable, line_end, nowhere, source_line, told_words}
use Rattle.report.specs.PrintedNames.{json_name}
use Rattle.report.specs.PrintedWords.{json_words}

-- no value
abbrev pub null : List ℕ
null = codes "null"

-- `N`, or `null` where there is none
abbrev pub number_or_null : Option ℕ → List ℕ
number_or_null None = codes "null"
number_or_null (Some number) = decimal number

-- `"function":"NAME","function_offset":OFF`
abbrev pub function_members : Option InFunction → List ℕ
function_members None = codes "\"function\":null,\"function_offset\":null"
function_members (Some place) =
    codes "\"function\":\"" ++ (json_name place.0 ++ (codes "\",\"function_offset\":" ++ decimal place.1))

-- `"source_line":L,"source_file":"FILE"`
abbrev pub line_members : Option InFile → List ℕ
line_members None = codes "\"source_line\":null,\"source_file\":null"
line_members (Some line) = codes "\"source_line\":" ++ (decimal line.1 ++ (codes ",\"source_file\":\"" ++ (json_name line.0 ++ codes "\"")))

-- `"source_line":L`; of an executable its source file and its function too; of a trace file `"at":"WORDS"`
abbrev pub origin_members : KnownOrigin → List ℕ
origin_members nowhere = codes "\"source_line\":null"
origin_members (source_line line) = codes "\"source_line\":" ++ decimal line
origin_members (executable place) = line_members place.line ++ (codes "," ++ function_members place.function)
origin_members (told_words words) = codes "\"at\":\"" ++ (json_words (drop 1 words) ++ codes "\"")

-- `"pc":"0xP"`, and what is known there; place words stand alone
abbrev pub members_at : ℕ → KnownOrigin → List ℕ
members_at pc (told_words words) = origin_members (told_words words)
members_at pc origin = codes "\"pc\":\"0x" ++ (hexadecimal pc ++ (codes "\"," ++ origin_members origin))

abbrev pub pc_members : KnownCode → List ℕ
pc_members at = members_at at.pc at.origin

-- `"step":S,`; place words say it themselves
abbrev pub step_member : ℕ → KnownOrigin → List ℕ
step_member step (told_words words) = []
step_member step origin = codes "\"step\":" ++ (decimal step ++ codes ",")

-- what an event did, each member behind a comma: of a store the value is the number of the bytes that were stored
abbrev pub act_members : Event → List ℕ
act_members (Store hart line offset width value) = codes ",\"cache_line\":" ++ (decimal line ++ (codes ",\"offset\":" ++ (decimal offset
    ++ (codes ",\"width\":" ++ (decimal width ++ (codes ",\"value\":\"0x" ++ (hexadecimal (value % 2 ^ (8 * width)) ++ codes "\"")))))))
act_members (Clean hart line) = codes ",\"cache_line\":" ++ decimal line
act_members (Fence hart) = []
act_members (Begin hart op) = codes ",\"operation\":\"" ++ (decimal op ++ codes "\"")
act_members (End hart op) = codes ",\"operation\":\"" ++ (decimal op ++ codes "\"")

-- the members of an event's object: its kind, its number, from 1, its hart, the hart step that made it, the pc before that step, what is
-- known there, and what it did
abbrev pub event_members : ℕ → KnownEvent → List ℕ
event_members number one = codes "\"kind\":\"" ++ (kind_of one.event ++ (codes "\",\"event\":" ++ (decimal number
    ++ (codes ",\"hart\":" ++ (decimal (hart_of one.event) ++ (codes "," ++ (step_member one.step one.at.origin
    ++ (pc_members one.at ++ act_members one.event))))))))

-- the end of an object and of its line
abbrev pub object_end : List ℕ
object_end = codes "}" ++ line_end

-- the object of an event with its number, by what is known of each pc
abbrev pub numbered_object : (ℕ → KnownOrigin) → ℕ × TracedEvent → List ℕ
numbered_object origins t = codes "{" ++ (event_members t.0 (placed origins t.1) ++ object_end)

-- an object for each event, and one with their number
abbrev pub trace_json : (ℕ → KnownOrigin) → List TracedEvent → List ℕ
trace_json origins traced = flat_map (numbered_object origins) (enumerate_from 1 traced)
    ++ (codes "{\"kind\":\"events\",\"events\":" ++ (decimal (length traced) ++ object_end))
