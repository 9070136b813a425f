-- What `judge` of a trace file can't ask for.
use Rattle.std.proofs.Common.{◌≡◌, ◌∙◌, refl, subst, sym, Bool, true, false, List, Option, Some, None}
use Rattle.std.specs.Prelude.{◌≢◌}
use Rattle.clap.specs.Words.{Row, Text, first_of}
use Rattle.arguments.specs.Cuts.{IsOptionalCuts}
use Rattle.arguments.specs.Line.{AreCutsOf, AreRightBy, IsAsk, IsEventSource, IsJudge, IsRight, IsRightOf, IsTracedEvents}
use Rattle.arguments.specs.declared.asked.AskCommand.{AskCommand}
use Rattle.arguments.specs.declared.asked.EventSource.{EventSource}
use Rattle.arguments.specs.declared.asked.EventSource.TheVariants.{Run, Trace}
use Rattle.arguments.specs.declared.asked.JudgeCommand.{JudgeCommand}
use Rattle.arguments.specs.declared.asked.MostCuts.{MostCuts}
use Rattle.arguments.specs.declared.asked.RightAnswers.{RightAnswers}
use Rattle.arguments.specs.declared.asked.RightAnswers.TheVariants.{Atomic}
use Rattle.arguments.specs.declared.asked.ScheduledRun.{ScheduledRun}
use Rattle.arguments.specs.declared.asked.TracedEvents.{TracedEvents}
use Rattle.std.specs.Prelude.{codes}

-- a line asks for a run or for a file
run_or_file : (rows : List Row) (run : ScheduledRun) (events : TracedEvents) → IsEventSource rows (Run run) → IsTracedEvents rows events → ⊥
run_or_file rows run events of_run of_file = let e = sym of_run.0.found ∙ of_file.file.found in absurd cc

-- answers are asked for on a file's events alone
pub none_of_run : (rows : List Row) (run : ScheduledRun) → IsEventSource rows (Run run) → (command : AskCommand) → ¬ IsAsk rows command
none_of_run rows run of_run command asked = run_or_file rows run command.events of_run asked.events

same_right : (atomic overlapping : Bool) (one other : RightAnswers) → AreRightBy atomic overlapping one → AreRightBy atomic overlapping other → other ≡ one
same_right false false one other is was = was ∙ sym is
same_right false true one other is was = was ∙ sym is
same_right true false one other is was = was ∙ sym is
same_right true true one other is was = absurd is

right_of_file : (rows : List Row) (events : TracedEvents) (source : EventSource) (right asked : RightAnswers) → IsTracedEvents rows events → IsEventSource rows source
    → asked ≡ right → IsRightOf source asked → IsRightOf (Trace events) right
right_of_file rows events (Run run) right asked traced of_run same is = absurd (run_or_file rows run events of_run traced)
right_of_file rows events (Trace others) right asked traced of_file same is = subst (λ (r : RightAnswers). r ≢ Atomic) same is

-- no sequential runs of a program
pub no_program : (rows : List Row) (source : EventSource) (right : RightAnswers) → IsEventSource rows source → IsRight rows right → ¬ IsRightOf source right
    → (command : JudgeCommand) → ¬ IsJudge rows command
no_program rows (Run run) right source is none command asked = none tt
no_program rows (Trace events) right source is none command asked =
    none (right_of_file rows events command.judged.source right command.right source asked.judged.source (same_right _ _ right command.right is asked.right) asked.of_run)

no_cuts_of : (found : Option Text) (cuts asked : Option MostCuts) → IsOptionalCuts found cuts → IsOptionalCuts found asked → asked ≡ None → cuts ≡ None
no_cuts_of None cuts asked is was none = is
no_cuts_of (Some text) cuts asked is was none = let e = sym none ∙ was.1 in absurd cc

cuts_of_file : (rows : List Row) (events : TracedEvents) (source : EventSource) (found : Option Text) (cuts asked : Option MostCuts) → IsTracedEvents rows events
    → IsEventSource rows source → IsOptionalCuts found cuts → IsOptionalCuts found asked → AreCutsOf source asked → cuts ≡ None
cuts_of_file rows events (Run run) found cuts asked traced of_run is was none = absurd (run_or_file rows run events of_run traced)
cuts_of_file rows events (Trace others) found cuts asked traced of_file is was none = no_cuts_of found cuts asked is was none

-- no power cuts in recovery
pub no_cuts : (rows : List Row) (source : EventSource) (cuts : Option MostCuts) → IsEventSource rows source → IsOptionalCuts (first_of (codes "recovery-cuts") rows) cuts
    → ¬ AreCutsOf source cuts → (command : JudgeCommand) → ¬ IsJudge rows command
no_cuts rows (Run run) cuts source is none command asked = none tt
no_cuts rows (Trace events) cuts source is none command asked =
    none (cuts_of_file rows events command.judged.source (first_of (codes "recovery-cuts") rows) cuts command.cuts source asked.judged.source is asked.cuts asked.cuts_of_run)
