-- What holds of every schedule where all states are good by a recovery routine.
use Rattle.std.proofs.Common.{◌≡◌, ◌≢◌, ℕ, Bool, false, List, [], None, Result, Ok, Err, sym, ap, ◌∙◌, subst, arith}
use Rattle.hart.specs.declared.state.Status.{Status}
use Rattle.hart.specs.declared.state.Status.TheVariants.{Exited}
use Rattle.machine.specs.Replies.{trace_in}
use Rattle.machine.specs.Run.{started}
use Rattle.machine.specs.RunValues.{RunView}
use Rattle.machine.specs.declared.recording.setup.Setup.{Setup}
use Rattle.program.specs.Sections.{Sections}
use Rattle.recovery.specs.Images.{AnswersOn}
use Rattle.recovery.specs.declared.recovery_run.Cause as run
use Rattle.routine_judge.specs.Gathered.{AreRightAfter, IsJudgedBy}
use Rattle.routine_judge.specs.ImagesVerdicts.{IsFoundIn, IsImagesVerdict}
use Rattle.routine_judge.specs.Order.{AreOrdered}
use Rattle.routine_judge.specs.Rules.{program_with}
use Rattle.routine_judge.specs.SequentialRuns.{AreSequentialRuns, notes_in}
use Rattle.routine_judge.specs.Views.{ProgramView}
use Rattle.routine_judge.specs.declared.cause.Cause.{Cause}
use Rattle.routine_judge.specs.declared.history.fault.MarkFault.{MarkFault}
use Rattle.routine_judge.specs.declared.order.precedence.Precedence.{Precedence}
use Rattle.routine_judge.specs.declared.order.sequential_runs.SequentialRun.{SequentialRun}
use Rattle.routine_judge.specs.declared.right.RightAnswers.{RightAnswers}
use Rattle.schedule_states.specs.Happening.{HasHappened}
use Rattle.schedule_states.specs.Images.{highest_in, image_in}
use Rattle.schedule_states.specs.Judging.{AlwaysGood, AreGoodImages}
use Rattle.schedule_states.specs.Memories.{MemoryView}
use Rattle.store_trace.proofs.Lines.{within_from_cut}
use Rattle.store_trace.specs.Cut.{IsCutImage, number_in}
use Rattle.store_trace.specs.History.{history}
use Rattle.store_trace.specs.Marks.{begun}
use Rattle.store_trace.specs.declared.event.Event.{Event}
use Rattle.verdict.specs.declared.images_verdict.ImagesVerdict.{ImagesVerdict}
use Rattle.verdict.specs.declared.images_verdict.ImagesVerdict.TheVariants.{Pass}
use Rattle.witness.proofs.HartRuns.{run_start}
use Rattle.witness.proofs.Leaving.{leaves_a_cut}
use Rattle.every_schedule.specs.AllAnswers.{AllAnswer, AllAnswerOnMachines, AnswersRight, IsFoundByRoutine, IsGoodAfter, IsOfSetup, IsReached, IsSaidByRoutine, SomeBegins}
use Rattle.every_schedule.specs.EverySchedule.{AllEndWell, IsFoundBy, IsRunOf}
use Rattle.every_schedule.specs.Sequential.{program_of}
use Rattle.every_schedule.specs.declared.outcome.Finding.{Finding}
use Rattle.every_schedule.specs.declared.outcome.Outcome.{Outcome}
use Rattle.every_schedule.specs.declared.outcome.Outcome.TheVariants as outcomes
use Rattle.every_schedule.specs.declared.routine_run.RoutineRun.{RoutineRun}

-- an image on which what the routine comes to is found to be right
answered : (view : ProgramView) (events : List Event) (left : List (List ℕ)) (right : RightAnswers) (shown : Result (List ℕ) run.Cause) →
    AreRightAfter view events right → AnswersOn view.routine view.steps left shown → IsJudgedBy right shown None → AnswersRight view events left
answered view events left right (Ok bytes) rights answers among = record { bytes = bytes; answers = answers; right = rights.each bytes among }
answered view events left right (Err cause) rights answers told = absurd cc

-- a state is good where all its images pass by the right answers after its events
images_right : (view : ProgramView) (notes : List SequentialRun) (precedence : Precedence) (right : RightAnswers) (m : MemoryView) (lines : ℕ) →
    ((view : ProgramView) (events : List Event) → AreSequentialRuns view notes → AreOrdered events precedence → AreRightAfter view events right) →
    IsImagesVerdict right view.routine view.steps lines (λ (k : ℕ → ℕ). image_in m k) (λ (l : ℕ). 0) (λ (l : ℕ). highest_in m l) Pass →
    AreGoodImages (λ (p : Precedence) (events : List Event). AreOrdered events p)
    (λ (events : List Event) (full left : List (List ℕ)). IsGoodAfter view notes events left) m precedence
images_right view notes precedence right m lines rights passed events k is choice begins are =
    let found : IsFoundIn right view.routine view.steps (image_in m k) None = passed.1 k (record { least = λ l. omega arith; most = choice }) in
    answered view events (image_in m k) right found.0 (rights view events are is) found.1 found.2

-- the same of the images as they are judged, where the verdict on them is that they pass
pub cuts_right : (view : ProgramView) (notes : List SequentialRun) (precedence : Precedence) (right : RightAnswers) (m judged : MemoryView) (lines : ℕ)
    (verdict : ImagesVerdict Cause) → judged ≡ m → verdict ≡ Pass →
    ((view : ProgramView) (events : List Event) → AreSequentialRuns view notes → AreOrdered events precedence → AreRightAfter view events right) →
    IsImagesVerdict right view.routine view.steps lines (λ (k : ℕ → ℕ). image_in judged k) (λ (l : ℕ). 0) (λ (l : ℕ). highest_in judged l) verdict →
    AreGoodImages (λ (p : Precedence) (events : List Event). AreOrdered events p)
    (λ (events : List Event) (full left : List (List ℕ)). IsGoodAfter view notes events left) m precedence
cuts_right view notes precedence right m judged lines verdict same passed rights shown =
    subst (λ (memory : MemoryView). AreGoodImages (λ (p : Precedence) (events : List Event). AreOrdered events p)
    (λ (events : List Event) (full left : List (List ℕ)). IsGoodAfter view notes events left) memory precedence) same
    (images_right view notes precedence right judged lines rights
    (subst (λ (v : ImagesVerdict Cause). IsImagesVerdict right view.routine view.steps lines (λ (k : ℕ → ℕ). image_in judged k) (λ (l : ℕ). 0)
    (λ (l : ℕ). highest_in judged l) v) passed shown))

-- a state of runs in which no operation has begun
pub none_right : (view : ProgramView) (notes : List SequentialRun) (precedence : Precedence) (m : MemoryView) →
    ((events : List Event) → AreOrdered events precedence → begun events ≡ []) →
    AreGoodImages (λ (p : Precedence) (events : List Event). AreOrdered events p)
    (λ (events : List Event) (full left : List (List ℕ)). IsGoodAfter view notes events left) m precedence
none_right view notes precedence m none events k is choice begins are = absurd (begins (none events is))

-- a state in which an operation has begun shows that some schedule begins one
pub some_begins : (s : Setup) (precedence : Precedence) (m : MemoryView) →
    HasHappened (λ (p : Precedence) (events : List Event). AreOrdered events p) (λ (events : List Event) (lines : List (List ℕ)). IsReached s events) m precedence →
    ((events : List Event) → AreOrdered events precedence → begun events ≢ []) → SomeBegins s
some_begins s precedence m happened some = (happened.0, happened.2, some happened.0 happened.1)

-- all states are good by a routine
abbrev pub AreAllRight : Setup → Sections → ℕ → List SequentialRun → Bool → Type 0
AreAllRight s recovery steps notes any_end = AlwaysGood (λ (precedence : Precedence) (events : List Event). AreOrdered events precedence)
    (λ (events : List Event) (hart : ℕ). Unit {0})
    (λ (events : List Event) (full left : List (List ℕ)). IsGoodAfter (program_of s recovery steps) notes events left)
    (λ (status : Status). any_end ≡ false → status ≡ Exited 0) s.program s.medium s.harts

pub all_answer : (s : Setup) (recovery : Sections) (steps : ℕ) (notes : List SequentialRun) (any_end : Bool) →
    AreAllRight s recovery steps notes any_end → AreSequentialRuns (program_of s recovery steps) notes → AllAnswer (program_of s recovery steps)
all_answer s recovery steps notes any_end good are made end runs =
    let all = good made end runs (λ before after h c is led. tt) in (
      all.0.1.sound,
      λ begins cut is. all.1 (number_in cut) (within_from_cut (history (trace_in end.common)) cut is) begins are,
    )

pub all_ends : (s : Setup) (recovery : Sections) (steps : ℕ) (notes : List SequentialRun) (any_end : Bool) →
    AreAllRight s recovery steps notes any_end → any_end ≡ false → AllEndWell s
all_ends s recovery steps notes any_end good asked made end h hart runs here stopped =
    (good made end runs (λ before after k c is led. tt)).2 h hart here stopped asked

-- what a power cut leaves of a machine is the image of a cut
pub all_answer_on_machines : (view : ProgramView) → AllAnswer view → AllAnswerOnMachines view
all_answer_on_machines view answers machine steps end runs stands begins =
    let left : IsCutImage end.common.start (history (trace_in end.common)) machine.shared.cache.lines = leaves_a_cut machine end stands in
    let start : end.common.start ≡ view.medium = run_start (started view.program view.medium view.harts) end steps runs in
    let cut : IsCutImage view.medium (history (trace_in end.common)) machine.shared.cache.lines =
    subst (λ (lines : List (List ℕ)). IsCutImage lines (history (trace_in end.common)) machine.shared.cache.lines) start left in
    subst (λ (lines : List (List ℕ)). AnswersRight view (trace_in end.common) lines) (sym cut.bytes) ((answers steps end runs).1 begins cut.cut cut.bounds)

-- the program of a judge of one run is that of the setup whose runs it judges
abbrev view_with : Sections → List (List ℕ) → ℕ → Sections → ℕ → ProgramView
view_with program medium harts recovery steps = record { program = program; medium = medium; harts = harts; routine = recovery; steps = steps }

same_view : (judge : RoutineRun) (s other : Setup) → IsOfSetup judge s → other ≡ s →
    program_with judge.runs other.medium judge.recovery.program.now judge.recovery.steps ≡ program_of s judge.recovery.program.now judge.recovery.steps
same_view judge s other of same =
    ap (λ (program : Sections). view_with program other.medium judge.runs.harts judge.recovery.program.now judge.recovery.steps) of.program_is
    ∙ ap (λ (harts : ℕ). view_with s.program other.medium harts judge.recovery.program.now judge.recovery.steps) of.harts_is
    ∙ ap (λ (setup : Setup). view_with s.program setup.medium s.harts judge.recovery.program.now judge.recovery.steps) same

pub suits_all : (judge : RoutineRun) (s : Setup) → IsOfSetup judge s → (run : RunView) → IsRunOf s run →
    AreSequentialRuns (program_with judge.runs run.setup.medium judge.recovery.program.now judge.recovery.steps) (notes_in judge.runs.runs.now)
suits_all judge s of run is =
    subst (λ (view : ProgramView). AreSequentialRuns view (notes_in judge.runs.runs.now)) (sym (same_view judge s run.setup of is.1.setup_is)) of.noted

pub found_by_routine : (judge : RoutineRun) (s : Setup) (outcome : Outcome Cause MarkFault) → IsOfSetup judge s →
    IsFoundBy (λ (run : RunView) (finding : Finding Cause MarkFault).
    IsSaidByRoutine (program_with judge.runs run.setup.medium judge.recovery.program.now judge.recovery.steps) run finding) s outcome →
    IsFoundByRoutine (program_of s judge.recovery.program.now judge.recovery.steps) s outcome
found_by_routine judge s (outcomes.Pass states moments) of found = tt
found_by_routine judge s (outcomes.Found run finding) of found = (
  found.0,
  subst (λ (view : ProgramView). IsSaidByRoutine view run finding) (same_view judge s run.setup of found.0.1.setup_is) found.1,
)
found_by_routine judge s (outcomes.TooMany bound) of found = tt
