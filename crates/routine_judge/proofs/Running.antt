-- What a run of the routine shows.
use Rattle.std.proofs.Common.{◌≡◌, ℕ, List, Result, subst}
use Rattle.program.specs.Sections.{Sections}
use Rattle.recovery.specs.Images.{AnswersOn, AsksOn}
use Rattle.recovery.specs.Routine.{Recovers}
use Rattle.recovery.specs.declared.recovery_run.Cause as run
use Rattle.routine_judge.specs.Views.{JudgeView}
use Rattle.store_trace.specs.declared.event.Event.{Event}
use Rattle.verdict.specs.declared.branches.question.Question.{Question}

-- what holds by the routine, its steps, the starting medium, the events and a moment holds by those of the run
pub across : (Holds : Sections → ℕ → List (List ℕ) → List Event → ℕ → Type 0) (view : JudgeView) (m : ℕ) (program : Sections) (steps : ℕ) (start : List (List ℕ))
    (events : List Event) (n : ℕ) → program ≡ view.routine → steps ≡ view.steps → start ≡ view.start → events ≡ view.events → n ≡ m →
    Holds program steps start events n → Holds view.routine view.steps view.start view.events m
across Holds view m program steps start events n p s l e i h =
    subst (λ (x : Sections). Holds x view.steps view.start view.events m) p
    (subst (λ (x : ℕ). Holds program x view.start view.events m) s
    (subst (λ (x : List (List ℕ)). Holds program steps x view.events m) l
    (subst (λ (x : List Event). Holds program steps start x m) e
    (subst (λ (x : ℕ). Holds program steps start events x) i h))))

-- what a run of the routine on an image asks, and what it comes to
pub recovered_asks : (program own : Sections) (medium image : List (List ℕ)) (steps : ℕ) (questions : List Question) (found : Result (List ℕ) run.Cause) →
    program ≡ own → medium ≡ image → Recovers program medium steps questions found → AsksOn own steps image questions
recovered_asks program own medium image steps questions found p m r =
    let asks : AsksOn program steps medium questions = record { end = r.end; full = r.full; runs = r.runs; asks = r.asks } in
    subst (λ (x : Sections). AsksOn x steps image questions) p (subst (λ (x : List (List ℕ)). AsksOn program steps x questions) m asks)

pub recovered_shows : (program own : Sections) (medium image : List (List ℕ)) (steps : ℕ) (questions : List Question) (found : Result (List ℕ) run.Cause) →
    program ≡ own → medium ≡ image → Recovers program medium steps questions found → AnswersOn own steps image found
recovered_shows program own medium image steps questions found p m r =
    let shows : AnswersOn program steps medium found = record { end = r.end; full = r.full; runs = r.runs; comes = r.comes } in
    subst (λ (x : Sections). AnswersOn x steps image found) p (subst (λ (x : List (List ℕ)). AnswersOn program steps x found) m shows)
