-- What is printed of a run's needless cleans and fences.
use Rattle.std.specs.Prelude.{◌≡◌, ℕ, List, [], ◌++◌, Option, Some, None, codes, decimal}
use Rattle.std.specs.Global.{Vec}
use Rattle.std.specs.List.{count_by, enumerate_from, flat_map}
use Rattle.durability.specs.Words.{words_of}
use Rattle.durability.specs.declared.redundant.reason.Reason.{Reason}
use Rattle.report.specs.Events.{KnownEvent, placed_text, whole}
use Rattle.report.specs.Places.{KnownCode, KnownOrigin, code_place, code_text, known_code, line_end}
use Rattle.report.specs.declared.redundant.always.ShownAlways.{ShownAlways}
use Rattle.machine.specs.declared.run_trace.traced_event.TracedEvent.{TracedEvent}
use Rattle.report.specs.Uses.{Always, AreAlways, Judged, is_unfenced, is_use, is_vain}

-- the line of an event as `trace` prints it, and why it is needless
abbrev pub needless_line : ℕ → KnownEvent → Reason → List ℕ
needless_line number one reason = decimal number ++ (codes " " ++ (placed_text one ++ (codes ": " ++ (words_of reason ++ line_end))))

-- by what is known of the event of each number
abbrev pub reason_line : (ℕ → TracedEvent → KnownEvent) → ℕ → TracedEvent → Reason → List ℕ
reason_line known number traced reason = needless_line number (known number traced) reason

-- what is told of an event that is needless, and nothing where it isn't
abbrev pub judged_text : (ℕ → TracedEvent → Reason → List ℕ) → ℕ → TracedEvent → Option Reason → List ℕ
judged_text needless number traced None = []
judged_text needless number traced (Some reason) = needless number traced reason

abbrev pub judged_line : (ℕ → TracedEvent → Reason → List ℕ) → ℕ × Judged → List ℕ
judged_line needless one = judged_text needless one.0 one.1.0 one.1.1

-- ` hH`, where one hart made them all
abbrev pub maker_text : Option ℕ → List ℕ
maker_text None = []
maker_text (Some hart) = codes " h" ++ decimal hart

-- an instruction that is needless each time, with its place
pub record KnownAlways : Type 0 where
  pub at : KnownCode
  pub hart : Option ℕ
  pub count : ℕ

abbrev pub shown_always : (ℕ → KnownOrigin) → Always → KnownAlways
shown_always origins one = record { at = code_place origins one.pc; hart = one.hart; count = one.count }

-- the same of the program's own value
abbrev pub known_always : ShownAlways → KnownAlways
known_always one = record { at = known_code one.at; hart = one.hart; count = one.count }

-- `always hH pc=0xP, N of N`, with what is known of the pc behind it, or with place words in its place
abbrev pub always_text : KnownAlways → List ℕ
always_text one = codes "always" ++ (maker_text one.hart ++ (code_text one.at
    ++ (codes ", " ++ (decimal one.count ++ (codes " of " ++ decimal one.count)))))

abbrev pub always_line : (ℕ → KnownOrigin) → Always → List ℕ
always_line origins one = always_text (shown_always origins one) ++ line_end

-- `needless N of M, unfenced K`
abbrev pub summary_line : List Judged → List ℕ
summary_line all = codes "needless " ++ (decimal (count_by is_vain all) ++ (codes " of " ++ (decimal (count_by is_use all)
    ++ (codes ", unfenced " ++ (decimal (count_by is_unfenced all) ++ line_end)))))

-- what is told of each needless event, in the events' order, then of each instruction that is needless each time, upwards, and the sums
abbrev pub IsWaste : (ℕ → TracedEvent → Reason → List ℕ) → (Always → List ℕ) → (List Judged → List ℕ) → List Judged → List ℕ → Type 0
IsWaste needless always sums all text = (found : List Always) × AreAlways all found
    × (text ≡ flat_map (judged_line needless) (enumerate_from 1 all) ++ (flat_map always found ++ sums all))

-- a line for each of these, the events whole
abbrev pub IsWasteText : (ℕ → KnownOrigin) → Option (Vec (Vec ℕ)) → List Judged → List ℕ → Type 0
IsWasteText origins lines all text = IsWaste (reason_line (whole origins lines)) (always_line origins) summary_line all text
