-- Sequential runs, as a search follows and notes them.
use Rattle.std.proofs.Common.{◌≡◌, ◌⊎◌, inl, inr, ℕ, ◌+◌, Bool, true, false, true≢false, List, [], ◌∷◌, ◌++◌, Option, Some, None, length, slice_get, sym, ap, ◌∙◌, subst, arith}
use Rattle.std.specs.Prelude.{◌↔◌, IfNone, IfSome, IsTrue, Result}
use Rattle.std.proofs.Math.Seq.{get_or-append_seam, take-append_seam}
use Rattle.std.specs.List.{Contains}
use Rattle.std.proofs.lemmas.List.{length-append}
use Rattle.std.proofs.lemmas.Option.{slice_get-get_or}
use Rattle.hart.specs.declared.state.Status.{Status}
use Rattle.machine.proofs.Determined.{runs_once}
use Rattle.machine.proofs.RunParts.{run_grows, run_parted}
use Rattle.machine.specs.Replies.{trace_in}
use Rattle.machine.specs.Run.{Config, RunsTo, started}
use Rattle.machine.specs.declared.schedule.items.Step.{Step}
use Rattle.machine.specs.declared.schedule.items.Step.TheVariants.{Hart}
use Rattle.program.specs.Sections.{Sections}
use Rattle.recovery.specs.Images.{AnswersOn}
use Rattle.recovery.specs.declared.recovery_run.Cause.{Cause}
use Rattle.routine_judge.specs.Fitting.{IsSequential, IsStateOf, IsWordOf}
use Rattle.routine_judge.specs.MarkFaults.{AreSound, HasFault}
use Rattle.routine_judge.specs.Operations.{IsPendingBy}
use Rattle.routine_judge.specs.Order.{AreAtRest}
use Rattle.routine_judge.specs.SequentialRuns.{AreSequentialRuns, IsNoteOf, IsSameNote, IsSequentialRun, IsSequentialRunOf}
use Rattle.routine_judge.specs.Views.{ProgramView}
use Rattle.routine_judge.specs.declared.history.fault.MarkFault.{MarkFault}
use Rattle.routine_judge.specs.declared.history.overlap.Overlap.TheVariants.{Never}
use Rattle.routine_judge.specs.declared.order.sequential.SequentialState.{SequentialState}
use Rattle.routine_judge.specs.declared.order.sequential_runs.SequentialRun.{SequentialRun}
use Rattle.routine_judge.specs.declared.order.word.Word.{Word}
use Rattle.schedule_states.specs.Happening.{HasHappened, IsLed, full_image}
use Rattle.schedule_states.specs.Images.{image_in}
use Rattle.schedule_states.specs.Judging.{AlwaysGood, AreGoodImages, StaysGood}
use Rattle.schedule_states.specs.Memories.{MemoryView}
use Rattle.schedule_states.specs.Turns.{KeepsTo, MayGo}
use Rattle.store_trace.proofs.Bounds.{floor_le_stores}
use Rattle.store_trace.specs.Cut.{IsWithin}
use Rattle.store_trace.specs.History.{history}
use Rattle.store_trace.specs.Stores.{stores}
use Rattle.store_trace.specs.declared.crash_model.step.PersistenceStep.{PersistenceStep}
use Rattle.store_trace.specs.declared.event.Event.{Event}
use Rattle.every_schedule.specs.KeptRuns.{sound_front}
use Rattle.every_schedule.specs.Sequential.{AreOfProgram, GoesOn, IsKeptOf, IsNewNote, IsNoted, IsOnItsWay}

-- a wrong mark stays one
last_get : (events : List Event) (event : Event) → slice_get (events ++ event ∷ []) (length events) ≡ Some event
last_get events event =
    let long : length (events ++ event ∷ []) ≡ length events + 1 = length-append events (event ∷ []) in
    slice_get-get_or (events ++ event ∷ []) (length events) event (omega (arith, long)) ∙ ap (λ (e : Event). Some e) (get_or-append_seam events event [] event)

fault_unsound : (events : List Event) (mark : Event) → ((fault : MarkFault) × HasFault Never events mark fault) → ¬ AreSound Never (events ++ mark ∷ []) (length (events ++ mark ∷ []))
fault_unsound events mark wrong sound =
    let long : length (events ++ mark ∷ []) ≡ length events + 1 = length-append events (mark ∷ []) in
    sound (length events) mark wrong.0 (omega (arith, long)) (last_get events mark)
    (subst (λ (before : List Event). HasFault Never before mark wrong.0) (sym (take-append_seam events (mark ∷ []))) wrong.1)

pub kept_after : (found : Option SequentialState) (state : SequentialState) (mark : Event) →
    IfSome found (λ (next : SequentialState). (events : List Event) → IsStateOf events state → IsStateOf (events ++ mark ∷ []) next) →
    IfNone found ((events : List Event) → IsStateOf events state → (fault : MarkFault) × HasFault Never events mark fault) →
    (events : List Event) → IsStateOf events state → IsKeptOf found (events ++ mark ∷ [])
kept_after (Some next) state mark some none events is = some events is
kept_after None state mark some none events is = fault_unsound events mark (none events is)

-- a sequential run keeps to the rule, and what keeps to it is one
keeps_to : (start end : Config) (run : IsSequentialRun start end) → KeepsTo GoesOn start run.steps
keeps_to start end run before after h c is runs =
    let parts : (d : Config) × RunsTo start before d × RunsTo d (Hart h ∷ after) end =
    run_parted start end before (Hart h ∷ after) (subst (λ (steps : List Step). RunsTo start steps end) is run.runs) in
    let same : parts.0 ≡ c = runs_once start before parts.0 c parts.1 runs in
    let grown : (more : List Event) × (trace_in end.common ≡ trace_in parts.0.common ++ more) = run_grows parts.0 end (Hart h ∷ after) parts.2 in
    let sound : AreSound Never (trace_in parts.0.common ++ grown.0) (length (trace_in parts.0.common ++ grown.0)) =
    subst (λ (events : List Event). AreSound Never events (length events)) grown.1 run.sound in record {
      sound = subst (λ (d : Config). AreSound Never (trace_in d.common) (length (trace_in d.common))) same (sound_front (trace_in parts.0.common) grown.0 sound);
      alone = run.sequential before after h c is runs;
    }

is_sequential : (start end : Config) (led : IsLed GoesOn start end) → IsSequential start led.steps
is_sequential start end led before after h c is runs beginner op pending = (led.keeps before after h c is runs).alone beginner op pending

-- where the state of a run is at rest, the run is noted
pub rest_noted : (view : ProgramView) (m : MemoryView) (state : SequentialState) (word : Word) (notes : List SequentialRun) (note : SequentialRun) →
    ((events : List Event) → IsStateOf events state → AreAtRest events → IsWordOf events word) → Contains notes note →
    IsNewNote view.routine view.steps (image_in m (λ l. 0)) word note →
    AreGoodImages IsKeptOf (λ (events : List Event) (full image : List (List ℕ)). IsNoted view notes events full) m (Some state)
rest_noted view m state word notes note worded among new events k is choice sound rest =
    let word_is : IsWordOf events word = worded events is rest in
    (note, among, record { sound = word_is.sound; begins = word_is.begins ∙ sym new.word_is }, new.shows)

-- a state of a run that isn't at rest
pub unrest_noted : (view : ProgramView) (m : MemoryView) (standing : Option SequentialState) (notes : List SequentialRun) →
    ((events : List Event) → IsKeptOf standing events → AreSound Never events (length events) → ¬ AreAtRest events) →
    AreGoodImages IsKeptOf (λ (events : List Event) (full image : List (List ℕ)). IsNoted view notes events full) m standing
unrest_noted view m standing notes unrest events k is choice sound rest = absurd (unrest events is sound rest)

-- what was noted is true of a run
run_of : (view : ProgramView) (events : List Event) (lines : List (List ℕ)) (state : SequentialState) (way : IsOnItsWay view events lines) → IsStateOf events state → AreAtRest events →
    IsSequentialRunOf view way.end
run_of view events lines state way is rest = record {
  steps = way.led.steps;
  runs = way.led.runs;
  sequential = is_sequential (started view.program view.medium view.harts) way.end way.led;
  sound = subst (λ (trace : List Event). AreSound Never trace (length trace)) way.events_are is.sound;
  rests = subst (λ (trace : List Event). AreAtRest trace) way.events_are rest;
}

note_of : (view : ProgramView) (events : List Event) (lines : List (List ℕ)) (state : SequentialState) (word : Word) (note : SequentialRun) (way : IsOnItsWay view events lines) →
    IsWordOf events word → IsNewNote view.routine view.steps lines word note → IsNoteOf view way.end note
note_of view events lines state word note way is new = record {
  word = subst (λ (trace : List Event). IsWordOf trace note.word) way.events_are (record { sound = is.sound; begins = is.begins ∙ sym new.word_is });
  shows = subst (λ (trace : List Event). AnswersOn view.routine view.steps (full_image view.medium trace) note.found) way.events_are
      (subst (λ (full : List (List ℕ)). AnswersOn view.routine view.steps full note.found) way.lines_are new.shows);
}

pub noted_true : (view : ProgramView) (m : MemoryView) (state : SequentialState) (word : Word) (old new : List SequentialRun) →
    HasHappened IsKeptOf (λ (events : List Event) (lines : List (List ℕ)). IsOnItsWay view events lines) m (Some state) →
    ((events : List Event) → IsStateOf events state → AreAtRest events) → ((events : List Event) → IsStateOf events state → AreAtRest events → IsWordOf events word) →
    ((note : SequentialRun) → Contains new note → Contains old note ⊎ IsNewNote view.routine view.steps (image_in m (λ l. 0)) word note) →
    AreOfProgram view old → AreOfProgram view new
noted_true view m state word old new happened rests worded only are note among = elim (only note among) [
  | inl before ↦ are note before
  | inr added ↦
      let rest : AreAtRest happened.0 = rests happened.0 happened.1 in (
        happened.2.end,
        run_of view happened.0 (image_in m (λ l. 0)) state happened.2 happened.1 rest,
        note_of view happened.0 (image_in m (λ l. 0)) state word note happened.2 (worded happened.0 happened.1 rest) added,
      )
]

-- all that were found
full_within : (p : List PersistenceStep) → IsWithin p (λ l. stores l p)
full_within p = record { low = λ l. floor_le_stores l p; high = λ l. omega arith }

pub all_noted : (view : ProgramView) (notes : List SequentialRun) →
    AlwaysGood IsKeptOf GoesOn (λ (events : List Event) (full image : List (List ℕ)). IsNoted view notes events full) (λ (status : Status). Unit {0})
    view.program view.medium view.harts → AreOfProgram view notes → AreSequentialRuns view notes
all_noted view notes good are = record {
  each = are;
  all = λ end run.
      let start : Config = started view.program view.medium view.harts in
      let events : List Event = trace_in end.common in
      let noted : (note : SequentialRun) × Contains notes note × IsWordOf events note.word × AnswersOn view.routine view.steps (full_image view.medium events) note.found =
      (good run.steps end run.runs (keeps_to start end run)).1 (λ l. stores l (history events)) (full_within (history events)) run.sound run.rests in
      (noted.0, noted.1, record { word = noted.2; shows = noted.3 });
}

-- whose turn it may be, as a state says
pub goes_on : (state : SequentialState) (hart : ℕ) (goes : Bool) →
    ((events : List Event) → IsStateOf events state → IsTrue goes ↔ ((beginner op : ℕ) → IsPendingBy events beginner op → beginner ≡ hart)) → goes ≡ true →
    MayGo IsKeptOf GoesOn (Some state) hart
goes_on state hart goes tells told events is = record { sound = is.sound; alone = (tells events is).0 told }

-- a wrong mark is one still after more events
pub none_after : (events : List Event) (mark : Event) → IsKeptOf None events → IsKeptOf None (events ++ mark ∷ [])
none_after events mark wrong sound = wrong (sound_front events (mark ∷ []) sound)

-- a state that isn't at rest, as it says itself
pub rests_not : (view : ProgramView) (m : MemoryView) (state : SequentialState) (notes : List SequentialRun) (rests : Bool) →
    ((events : List Event) → IsStateOf events state → IsTrue rests ↔ AreAtRest events) → rests ≡ false →
    AreGoodImages IsKeptOf (λ (events : List Event) (full image : List (List ℕ)). IsNoted view notes events full) m (Some state)
rests_not view m state notes rests tells told =
    unrest_noted view m (Some state) notes (λ events is sound rest. true≢false (sym ((tells events is).1 rest) ∙ told))

-- what was noted is noted still
pub still_noted : (view : ProgramView) (old new : List SequentialRun) → ((note : SequentialRun) → Contains old note → Contains new note) →
    StaysGood (λ (events : List Event) (full image : List (List ℕ)). IsNoted view old events full)
    (λ (events : List Event) (full image : List (List ℕ)). IsNoted view new events full)
still_noted view old new kept events full image was sound rest =
    let noted : (note : SequentialRun) × Contains old note × IsWordOf events note.word × AnswersOn view.routine view.steps full note.found = was sound rest in
    (noted.0, kept noted.0 noted.1, noted.2, noted.3)

-- a note that says the same is as new
pub same_new : (recovery : Sections) (steps : ℕ) (lines : List (List ℕ)) (word : Word) (note same : SequentialRun) → IsSameNote same note →
    IsNewNote recovery steps lines word note → IsNewNote recovery steps lines word same
same_new recovery steps lines word note same alike is = record {
  word_is = alike.word ∙ is.word_is;
  shows = subst (λ (found : Result (List ℕ) Cause). AnswersOn recovery steps lines found) (sym alike.found) is.shows;
}

pub added_noted : (recovery : Sections) (steps : ℕ) (lines : List (List ℕ)) (word : Word) (note : SequentialRun) (new : List SequentialRun) →
    IsNewNote recovery steps lines word note → ((same : SequentialRun) × Contains new same × IsSameNote same note) →
    (same : SequentialRun) × Contains new same × IsNewNote recovery steps lines word same
added_noted recovery steps lines word note new is there = (there.0, there.1, same_new recovery steps lines word note there.0 there.2 is)

pub added_only : (recovery : Sections) (steps : ℕ) (lines : List (List ℕ)) (word : Word) (note : SequentialRun) (old new : List SequentialRun) →
    IsNewNote recovery steps lines word note → ((other : SequentialRun) → Contains new other → Contains old other ⊎ (other ≡ note)) →
    (other : SequentialRun) → Contains new other → Contains old other ⊎ IsNewNote recovery steps lines word other
added_only recovery steps lines word note old new is only other among = elim (only other among) [
  | inl before ↦ inl before
  | inr added ↦ inr (subst (λ (n : SequentialRun). IsNewNote recovery steps lines word n) (sym added) is)
]

-- what was noted is true of a run, where the program that it was noted by is the routine
pub noted_still : (view : ProgramView) (m : MemoryView) (state : SequentialState) (word : Word) (old new : List SequentialRun) (program : Sections) → program ≡ view.routine →
    HasHappened IsKeptOf (λ (events : List Event) (lines : List (List ℕ)). IsOnItsWay view events lines) m (Some state) →
    ((events : List Event) → IsStateOf events state → AreAtRest events) → ((events : List Event) → IsStateOf events state → AreAtRest events → IsWordOf events word) →
    ((note : SequentialRun) → Contains new note → Contains old note ⊎ IsNewNote program view.steps (image_in m (λ l. 0)) word note) →
    AreOfProgram view old → AreOfProgram view new
noted_still view m state word old new program same happened rests worded only are =
    noted_true view m state word old new happened rests worded
    (λ note among. subst (λ (p : Sections). Contains old note ⊎ IsNewNote p view.steps (image_in m (λ l. 0)) word note) same (only note among)) are
