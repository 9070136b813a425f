-- What recovery asks of a medium and comes to on it, and of the images of cuts.
use Rattle.std.specs.Prelude.{◌≡◌, ◌+◌, ◌==◌, ◌&&◌, ◌||◌, ℕ, List, [], ◌∷◌, Bool, true, not, Result}
use Rattle.program.specs.Sections.{Sections}
use Rattle.line_memory.specs.Lines.{line_at}
use Rattle.store_trace.specs.Image.{image}
use Rattle.store_trace.specs.declared.crash_model.step.PersistenceStep.{PersistenceStep}
use Rattle.machine.specs.Run.{Config, started}
use Rattle.verdict.specs.Bytes.{has_byte}
use Rattle.verdict.specs.declared.branches.question.Question.{Question}
use Rattle.recovery.specs.declared.recovery_run.Cause.{Cause}
use Rattle.recovery.specs.Answers.{answer}
use Rattle.recovery.specs.Asking.{asked}
use Rattle.recovery.specs.Recovery.{RunsFor}

-- two lines have the same bytes at these places, counted from i on
abbrev pub same_at : ℕ → ℕ → List ℕ → List ℕ → Bool
same_at bytes i [] [] = true
same_at bytes i [] (y ∷ ys) = not (has_byte bytes i) && same_at bytes (i + 1) [] ys
same_at bytes i (x ∷ xs) [] = not (has_byte bytes i) && same_at bytes (i + 1) xs []
same_at bytes i (x ∷ xs) (y ∷ ys) = (not (has_byte bytes i) || (x == y)) && same_at bytes (i + 1) xs ys

-- the bytes of line l in the images in which it has this number
abbrev pub content : ((ℕ → ℕ) → List (List ℕ)) → ℕ → ℕ → List ℕ
content image l n = line_at (image (λ m. n)) l

-- in images by line the bytes of a question are the same by two numbers of its line
abbrev pub has_same_bytes : ((ℕ → ℕ) → List (List ℕ)) → Question → ℕ → ℕ → Bool
has_same_bytes image q n m = same_at q.bytes 0 (content image q.line n) (content image q.line m)

-- a routine, run for so many steps on a medium, asks these bytes
pub record AsksOn (program : Sections) (steps : ℕ) (medium : List (List ℕ)) (questions : List Question) : Type 0 where
  pub end : Config
  pub full : Bool
  pub runs : RunsFor (started program medium 1) steps end full
  pub asks : questions ≡ asked end.common.history

-- and comes to this
pub record AnswersOn (program : Sections) (steps : ℕ) (medium : List (List ℕ)) (found : Result (List ℕ) Cause) : Type 0 where
  pub end : Config
  pub full : Bool
  pub runs : RunsFor (started program medium 1) steps end full
  pub comes : found ≡ answer end full

-- both of the image of a cut of these persistence steps
abbrev pub Asks : Sections → ℕ → List (List ℕ) → List PersistenceStep → (ℕ → ℕ) → List Question → Type 0
Asks program steps start p cut questions = AsksOn program steps (image start cut p) questions

abbrev pub Answers : Sections → ℕ → List (List ℕ) → List PersistenceStep → (ℕ → ℕ) → Result (List ℕ) Cause → Type 0
Answers program steps start p cut found = AnswersOn program steps (image start cut p) found
