-- What is told of a verdict on the moments of a run, whatever judges an image.
use Rattle.std.specs.Prelude.{ℕ, Bool, true, false, List, [], Option, Some, None, ◌++◌, codes, decimal}
use Rattle.arguments.specs.declared.asked.JudgedRun.{JudgedRun}
use Rattle.arguments.specs.declared.asked.Moments.{Moments}
use Rattle.crash_test.specs.Rows.{Row}
use Rattle.text.specs.Texts.{image_text}
use Rattle.text.specs.declared.image_name.name.ImageName.{ImageName}
use Rattle.verdict.specs.Contents.{widest_text}
use Rattle.verdict.specs.declared.moment_verdict.contents.LineContents.{LineContents}
use Rattle.verdict.specs.declared.moment_verdict.verdict.OpenMoments.{OpenMoments}
use Rattle.verdict.specs.declared.moment_verdict.verdict.Verdict.{Verdict}
use Rattle.verdict.specs.declared.moment_verdict.verdict.Verdict.TheVariants as verdicts
use Rattle.command_line.specs.Progress.{total_text}
use Rattle.command_line.specs.Reports.{line_end}

-- the first of the moments that are judged, and the last one, where they don't go on to the last of the run
abbrev pub first_of : Option Moments → ℕ
first_of None = 0
first_of (Some moments) = moments.first

abbrev pub last_of : Option Moments → Option ℕ
last_of None = None
last_of (Some moments) = moments.last

-- the moments that are judged, and whether judging goes on behind those with too many branches
abbrev pub row_asked : JudgedRun → Row
row_asked judged = record { first = first_of judged.moments; last = last_of judged.moments; goes_on = judged.goes_on }

-- `pass moments=N images=N`
abbrev pub pass_line : ℕ → Option ℕ → List ℕ
pass_line moments images = codes "pass moments=" ++ (decimal moments ++ (codes " images=" ++ (total_text images ++ line_end)))

-- `pass moments=N images=N open=K first=M`
abbrev pub open_line : ℕ → Option ℕ → OpenMoments → List ℕ
open_line moments images open' = codes "pass moments=" ++ (decimal moments ++ (codes " images=" ++ (total_text images
    ++ (codes " open=" ++ (decimal open'.count ++ (codes " first=" ++ (decimal open'.first ++ line_end)))))))

-- ` of=too-many`, behind a failure of a moment with too many branches
abbrev pub of_text : Bool → List ℕ
of_text true = codes " of=too-many"
of_text false = []

-- `fail moment=M image=NAME cause=C`
abbrev pub fail_line : ℕ → ImageName → List ℕ → Bool → List ℕ
fail_line moment image cause of_too_many = codes "fail moment=" ++ (decimal moment ++ (codes " image=" ++ (image_text image
    ++ (codes " cause=" ++ (cause ++ (of_text of_too_many ++ line_end))))))

-- `too many moment=M`, and ` lines=lN:K,..` behind it where lines are named
abbrev pub too_many_line : ℕ → Option (List LineContents) → List ℕ
too_many_line moment None = codes "too many moment=" ++ (decimal moment ++ line_end)
too_many_line moment (Some lines) = codes "too many moment=" ++ (decimal moment ++ (codes " lines=" ++ (widest_text lines ++ line_end)))

-- `too long moment=M`
abbrev pub too_long_line : ℕ → List ℕ
too_long_line moment = codes "too long moment=" ++ (decimal moment ++ line_end)

-- the sum of the numbers of images in JSON; `null` where a moment has over 65,536
abbrev pub total_json : Option ℕ → List ℕ
total_json (Some images) = decimal images
total_json None = codes "null"

-- `{"kind":"pass","moments":N,"images":N}`
abbrev pub pass_json : ℕ → Option ℕ → List ℕ
pass_json moments images =
    codes "{\"kind\":\"pass\",\"moments\":" ++ (decimal moments ++ (codes ",\"images\":" ++ (total_json images ++ (codes "}" ++ line_end))))

-- `{"kind":"pass","moments":N,"images":N,"open":K,"first":M}`
abbrev pub open_json : ℕ → Option ℕ → OpenMoments → List ℕ
open_json moments images open' = codes "{\"kind\":\"pass\",\"moments\":" ++ (decimal moments ++ (codes ",\"images\":" ++ (total_json images
    ++ (codes ",\"open\":" ++ (decimal open'.count ++ (codes ",\"first\":" ++ (decimal open'.first ++ (codes "}" ++ line_end))))))))

-- the end of a failure, with `"of":"too-many"` where its moment has too many branches
abbrev pub fail_end : Bool → List ℕ
fail_end true = codes "\",\"of\":\"too-many\"}"
fail_end false = codes "\"}"

-- `{"kind":"fail","moment":M,"image":"NAME","cause":"C"}`
abbrev pub fail_json : ℕ → ImageName → List ℕ → Bool → List ℕ
fail_json moment image cause of_too_many = codes "{\"kind\":\"fail\",\"moment\":" ++ (decimal moment ++ (codes ",\"image\":\"" ++ (image_text image
    ++ (codes "\",\"cause\":\"" ++ (cause ++ (fail_end of_too_many ++ line_end))))))

-- `{"kind":"too many","moment":M}`, with `"lines":"lN:K,.."` where lines are named
abbrev pub too_many_json : ℕ → Option (List LineContents) → List ℕ
too_many_json moment None = codes "{\"kind\":\"too many\",\"moment\":" ++ (decimal moment ++ (codes "}" ++ line_end))
too_many_json moment (Some lines) = codes "{\"kind\":\"too many\",\"moment\":" ++ (decimal moment ++ (codes ",\"lines\":\"" ++ (widest_text lines
    ++ (codes "\"}" ++ line_end))))

-- `{"kind":"too long","moment":M}`
abbrev pub too_long_json : ℕ → List ℕ
too_long_json moment = codes "{\"kind\":\"too long\",\"moment\":" ++ (decimal moment ++ (codes "}" ++ line_end))

-- each of them as text or as JSON
abbrev pub told_pass : Bool → ℕ → Option ℕ → List ℕ
told_pass true moments images = pass_json moments images
told_pass false moments images = pass_line moments images

abbrev pub told_open : Bool → ℕ → Option ℕ → OpenMoments → List ℕ
told_open true moments images open' = open_json moments images open'
told_open false moments images open' = open_line moments images open'

abbrev pub told_fail : Bool → ℕ → ImageName → List ℕ → Bool → List ℕ
told_fail true moment image cause of_too_many = fail_json moment image cause of_too_many
told_fail false moment image cause of_too_many = fail_line moment image cause of_too_many

abbrev pub told_too_many : Bool → ℕ → Option (List LineContents) → List ℕ
told_too_many true moment lines = too_many_json moment lines
told_too_many false moment lines = too_many_line moment lines

abbrev pub told_too_long : Bool → ℕ → List ℕ
told_too_long true moment = too_long_json moment
told_too_long false moment = too_long_line moment

-- the verdict, as text or as JSON, where this is the text of a cause
abbrev pub told_verdict : {Cause : Type 0} → (Cause → List ℕ) → Bool → Verdict Cause → List ℕ
told_verdict text json (verdicts.Pass moments images) = told_pass json moments images
told_verdict text json (verdicts.Open moments images open') = told_open json moments images open'
told_verdict text json (verdicts.Fail moment image cause of_too_many) = told_fail json moment image (text cause) of_too_many
told_verdict text json (verdicts.TooMany moment lines) = told_too_many json moment lines
told_verdict text json (verdicts.TooLong moment) = told_too_long json moment

abbrev pub verdict_status : {Cause : Type 0} → Verdict Cause → ℕ
verdict_status (verdicts.Pass moments images) = 0
verdict_status (verdicts.Open moments images open') = 3
verdict_status (verdicts.Fail moment image cause of_too_many) = 1
verdict_status (verdicts.TooMany moment lines) = 3
verdict_status (verdicts.TooLong moment) = 3

-- the moment and the image that are explained: those of a failure, where that is asked for
abbrev pub failing : {Cause : Type 0} → Bool → Verdict Cause → Option (ℕ × ImageName)
failing true (verdicts.Fail moment image cause of_too_many) = Some (moment, image)
failing true (verdicts.Pass moments images) = None
failing true (verdicts.Open moments images open') = None
failing true (verdicts.TooMany moment lines) = None
failing true (verdicts.TooLong moment) = None
failing false verdict = None
