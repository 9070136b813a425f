-- What `images` comes to.
use Rattle.std.specs.Prelude.{ℕ, Bool, true, false, List, Option, Some, None, Result, MatchResult, ◌++◌, codes, decimal}
use Rattle.arguments.specs.declared.asked.ImagesCommand.{ImagesCommand}
use Rattle.crash_test.specs.Images.{CountsImages, LacksMoment}
use Rattle.store_trace.specs.declared.event.Event.{Event}
use Rattle.command_line.specs.Failures.{failure_of_image}
use Rattle.command_line.specs.Reports.{line_end}
use Rattle.command_line.specs.Steps.{First, Prints, Reads, Step, Still, Tells}
use Rattle.command_line.specs.Traces.{OpensEvents, events_of}
use Rattle.command_line.specs.declared.answer.Answer.{Answer}
use Rattle.command_line.specs.declared.failure.Failure.{Failure}

-- the images of a moment, or why they aren't counted
pub record Counts (events : List Event) (moment : ℕ) (outcome : Result (Option ℕ) Failure) : Type 0 where
  pub counts : MatchResult outcome (CountsImages events moment) (Tells (LacksMoment events moment) failure_of_image)

-- `N`, and `over 65536` where there are more
abbrev pub count_text : Option ℕ → List ℕ
count_text None = codes "over 65536"
count_text (Some n) = decimal n

-- `moment M images N`
abbrev pub images_line : ℕ → Option ℕ → List ℕ
images_line moment count = codes "moment " ++ (decimal moment ++ (codes " images " ++ (count_text count ++ line_end)))

-- the number, and `null` where there are more
abbrev pub count_json : Option ℕ → List ℕ
count_json None = codes "null"
count_json (Some n) = decimal n

-- `{"kind":"images","moment":M,"images":N}`
abbrev pub images_json : ℕ → Option ℕ → List ℕ
images_json moment count = codes "{\"kind\":\"images\",\"moment\":" ++ (decimal moment ++ (codes ",\"images\":" ++ (count_json count ++ (codes "}" ++ line_end))))

-- as text or as JSON
abbrev pub told_count : Bool → ℕ → Option ℕ → List ℕ
told_count true moment count = images_json moment count
told_count false moment count = images_line moment count

abbrev pub CountsFile : {F : Type 0} → Reads F → ImagesCommand → Step F Answer
CountsFile reads command =
    First (OpensEvents reads command.source) (λ opened.
    First (Still (Counts (events_of opened) command.moment)) (λ count.
    Still (Prints (told_count command.json command.moment count) 0)))
