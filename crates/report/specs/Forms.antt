-- What is printed in each form.
use Rattle.std.specs.Prelude.{ℕ, List, ◌++◌, codes}
use Rattle.durability.specs.declared.redundant.reason.Reason.{Reason}
use Rattle.report.specs.Events.{KnownEvent}
use Rattle.report.specs.Json.{object_end}
use Rattle.report.specs.Places.{KnownOrigin, line_end}
use Rattle.machine.specs.declared.run_trace.traced_event.TracedEvent.{TracedEvent}
use Rattle.report.specs.PrintedNames.{json_byte, text_byte}
use Rattle.report.specs.PrintedWords as words
use Rattle.report.specs.RedundantJson.{always_members, needless_object, summary_object}
use Rattle.report.specs.Uses.{Always, Judged}
use Rattle.report.specs.Waste.{KnownAlways, always_text, needless_line, shown_always, summary_line}
use Rattle.report.specs.declared.form.Form.{Form}
use Rattle.report.specs.declared.form.Form.TheVariants.{Text, Json}

-- of a byte of a name
abbrev pub name_byte : Form → ℕ → List ℕ
name_byte Text = text_byte
name_byte Json = json_byte

-- of a byte of place words
abbrev pub word_byte : Form → ℕ → List ℕ
word_byte Text = words.text_byte
word_byte Json = words.json_byte

-- of a needless event
abbrev pub needless_form : Form → ℕ → KnownEvent → Reason → List ℕ
needless_form Text = needless_line
needless_form Json = needless_object

-- by what is known of the event of each number
abbrev pub reason_form : Form → (ℕ → TracedEvent → KnownEvent) → ℕ → TracedEvent → Reason → List ℕ
reason_form form known number traced reason = needless_form form number (known number traced) reason

-- of an instruction that is needless each time, by its place
abbrev pub shown_form : Form → KnownAlways → List ℕ
shown_form Text one = always_text one ++ line_end
shown_form Json one = codes "{" ++ (always_members one ++ object_end)

abbrev pub always_form : Form → (ℕ → KnownOrigin) → Always → List ℕ
always_form form origins one = shown_form form (shown_always origins one)

-- of the sums
abbrev pub summary_form : Form → List Judged → List ℕ
summary_form Text = summary_line
summary_form Json = summary_object
