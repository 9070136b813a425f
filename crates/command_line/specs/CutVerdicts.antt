-- What is told of a verdict with power cuts in recovery.
use Rattle.std.specs.Prelude.{ℕ, zero, suc, Bool, true, false, List, [], ◌∷◌, ◌++◌, Option, Some, None, codes, decimal}
use Rattle.std.specs.List.{flat_map}
use Rattle.arguments.specs.declared.asked.MostCuts.{MostCuts}
use Rattle.arguments.specs.declared.asked.MostCuts.TheVariants as asked
use Rattle.routine_judge.specs.declared.cuts.judging.CutCause.{CutCause}
use Rattle.routine_judge.specs.declared.cuts.judging.CutCause.TheVariants as causes
use Rattle.routine_judge.specs.declared.cuts.outcome.ChainLink.{ChainLink}
use Rattle.routine_judge.specs.declared.cuts.outcome.CutsVerdict.{CutsVerdict}
use Rattle.routine_judge.specs.declared.cuts.outcome.CutsVerdict.TheVariants as verdicts
use Rattle.routine_judge.specs.declared.cuts.outcome.RecoveryCuts.{RecoveryCuts}
use Rattle.routine_judge.specs.declared.cuts.outcome.RecoveryCuts.TheVariants as cuts
use Rattle.text.specs.Texts.{image_text}
use Rattle.verdict.specs.declared.moment_verdict.verdict.OpenMoments.{OpenMoments}
use Rattle.command_line.specs.Judging.{cause_text}
use Rattle.command_line.specs.Progress.{total_text}
use Rattle.command_line.specs.Reports.{line_end}
use Rattle.command_line.specs.Verdicts.{told_too_long, total_json}

-- how many power cuts in recovery are looked at, by what the line asks for
abbrev pub cuts_asked : MostCuts → RecoveryCuts
cuts_asked (asked.AtMost most) = cuts.AtMost most
cuts_asked asked.Any = cuts.Any

-- `N`, or `any`; JSON has `any` as a text
abbrev pub cuts_text : RecoveryCuts → List ℕ
cuts_text (cuts.AtMost most) = decimal most
cuts_text cuts.Any = codes "any"

abbrev pub cuts_json : RecoveryCuts → List ℕ
cuts_json (cuts.AtMost most) = decimal most
cuts_json cuts.Any = codes "\"any\""

-- why an image is bad: as of `judge` without power cuts in recovery, or a recovery that had ended has shown another answer
abbrev pub cut_cause_text : CutCause → List ℕ
cut_cause_text (causes.Judged cause) = cause_text cause
cut_cause_text causes.Changed = codes "changed"

-- a power cut, as ` moment=M image=NAME` or as `{"moment":M,"image":"NAME"}`
abbrev pub link_told : Bool → ChainLink → List ℕ
link_told false link = codes " moment=" ++ (decimal link.moment ++ (codes " image=" ++ image_text link.image))
link_told true link = codes "{\"moment\":" ++ (decimal link.moment ++ (codes ",\"image\":\"" ++ (image_text link.image ++ codes "\"}")))

-- a further one, behind ` then` or a comma
abbrev pub further_link : Bool → ChainLink → List ℕ
further_link false link = codes " then" ++ link_told false link
further_link true link = codes "," ++ link_told true link

-- power cuts one after the other
abbrev pub links_told : Bool → List ChainLink → List ℕ
links_told json [] = []
links_told json (link ∷ links) = link_told json link ++ flat_map (further_link json) links

-- `pass moments=N images=N recovery-cuts=K`
abbrev pub pass_line : ℕ → Option ℕ → RecoveryCuts → List ℕ
pass_line moments images most = codes "pass moments=" ++ (decimal moments ++ (codes " images=" ++ (total_text images
    ++ (codes " recovery-cuts=" ++ (cuts_text most ++ line_end)))))

-- `pass moments=N images=N open=K first=M recovery-cuts=K`
abbrev pub open_line : ℕ → Option ℕ → OpenMoments → RecoveryCuts → List ℕ
open_line moments images open' most = codes "pass moments=" ++ (decimal moments ++ (codes " images=" ++ (total_text images
    ++ (codes " open=" ++ (decimal open'.count ++ (codes " first=" ++ (decimal open'.first
    ++ (codes " recovery-cuts=" ++ (cuts_text most ++ line_end)))))))))

-- `fail moment=M image=NAME then moment=M image=NAME .. cause=C`; of one power cut alone as without the option
abbrev pub fail_line : List ChainLink → List ℕ → List ℕ
fail_line chain cause = codes "fail" ++ (links_told false chain ++ (codes " cause=" ++ (cause ++ line_end)))

-- `too many moment=M`, and ` recovery-cuts=K` behind it where up to K cuts in recovery were decided
abbrev pub too_many_line : ℕ → Option ℕ → List ℕ
too_many_line moment None = codes "too many moment=" ++ (decimal moment ++ line_end)
too_many_line moment (Some most) = codes "too many moment=" ++ (decimal moment ++ (codes " recovery-cuts=" ++ (decimal most ++ line_end)))

-- `{"kind":"pass","moments":N,"images":N,"recovery_cuts":K}`
abbrev pub pass_json : ℕ → Option ℕ → RecoveryCuts → List ℕ
pass_json moments images most = codes "{\"kind\":\"pass\",\"moments\":" ++ (decimal moments ++ (codes ",\"images\":" ++ (total_json images
    ++ (codes ",\"recovery_cuts\":" ++ (cuts_json most ++ (codes "}" ++ line_end))))))

-- `{"kind":"pass","moments":N,"images":N,"open":K,"first":M,"recovery_cuts":K}`
abbrev pub open_json : ℕ → Option ℕ → OpenMoments → RecoveryCuts → List ℕ
open_json moments images open' most = codes "{\"kind\":\"pass\",\"moments\":" ++ (decimal moments ++ (codes ",\"images\":" ++ (total_json images
    ++ (codes ",\"open\":" ++ (decimal open'.count ++ (codes ",\"first\":" ++ (decimal open'.first
    ++ (codes ",\"recovery_cuts\":" ++ (cuts_json most ++ (codes "}" ++ line_end))))))))))

-- `{"kind":"fail","moment":M,"image":"NAME","cause":"C","recovery":[..]}`, with the further power cuts in the list
abbrev pub fail_json : List ChainLink → List ℕ → List ℕ
fail_json [] cause = []
fail_json (link ∷ links) cause = codes "{\"kind\":\"fail\",\"moment\":" ++ (decimal link.moment ++ (codes ",\"image\":\"" ++ (image_text link.image
    ++ (codes "\",\"cause\":\"" ++ (cause ++ (codes "\",\"recovery\":[" ++ (links_told true links ++ (codes "]}" ++ line_end))))))))

-- `{"kind":"too many","moment":M,"recovery_cuts":K}`, or `null`
abbrev pub number_or_null : Option ℕ → List ℕ
number_or_null None = codes "null"
number_or_null (Some number) = decimal number

abbrev pub too_many_json : ℕ → Option ℕ → List ℕ
too_many_json moment most = codes "{\"kind\":\"too many\",\"moment\":" ++ (decimal moment ++ (codes ",\"recovery_cuts\":" ++ (number_or_null most
    ++ (codes "}" ++ line_end))))

-- each of them as text or as JSON
abbrev pub told_pass : Bool → ℕ → Option ℕ → RecoveryCuts → List ℕ
told_pass true moments images most = pass_json moments images most
told_pass false moments images most = pass_line moments images most

abbrev pub told_open : Bool → ℕ → Option ℕ → OpenMoments → RecoveryCuts → List ℕ
told_open true moments images open' most = open_json moments images open' most
told_open false moments images open' most = open_line moments images open' most

abbrev pub told_fail : Bool → List ChainLink → List ℕ → List ℕ
told_fail true chain cause = fail_json chain cause
told_fail false chain cause = fail_line chain cause

abbrev pub told_too_many : Bool → ℕ → Option ℕ → List ℕ
told_too_many true moment most = too_many_json moment most
told_too_many false moment most = too_many_line moment most

-- the verdict on so many power cuts in recovery
abbrev pub told_verdict : Bool → RecoveryCuts → CutsVerdict → List ℕ
told_verdict json most (verdicts.Pass moments images) = told_pass json moments images most
told_verdict json most (verdicts.Open moments images open') = told_open json moments images open' most
told_verdict json most (verdicts.Fail chain cause) = told_fail json chain.items (cut_cause_text cause)
told_verdict json most (verdicts.TooMany moment decided) = told_too_many json moment decided
told_verdict json most (verdicts.TooLong moment) = told_too_long json moment

abbrev pub verdict_status : CutsVerdict → ℕ
verdict_status (verdicts.Pass moments images) = 0
verdict_status (verdicts.Open moments images open') = 3
verdict_status (verdicts.Fail chain cause) = 1
verdict_status (verdicts.TooMany moment decided) = 3
verdict_status (verdicts.TooLong moment) = 3

-- the verdict is on no moment
abbrev pub judges_none : CutsVerdict → Bool
judges_none (verdicts.Pass zero images) = true
judges_none (verdicts.Pass (suc n) images) = false
judges_none (verdicts.Open moments images open') = false
judges_none (verdicts.Fail chain cause) = false
judges_none (verdicts.TooMany moment decided) = false
judges_none (verdicts.TooLong moment) = false

-- the power cuts that are explained: those of a failure, where that is asked for
abbrev pub failing_chain : Bool → CutsVerdict → List ChainLink
failing_chain true (verdicts.Fail chain cause) = chain.items
failing_chain true (verdicts.Pass moments images) = []
failing_chain true (verdicts.Open moments images open') = []
failing_chain true (verdicts.TooMany moment decided) = []
failing_chain true (verdicts.TooLong moment) = []
failing_chain false verdict = []
