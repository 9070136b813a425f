-- What a recovery routine asks of an image, and what it answers.
-- This project's own: what a routine does on a crash image (Vinter, USENIX ATC 2022) depends on what it asks of it.
use Rattle.std.specs.Prelude.{◌≡◌, ℕ, List, Result, map}
use Rattle.program.specs.Sections.{Sections}
use Rattle.recovery.specs.Routine.{Recovers}
use Rattle.recovery.specs.declared.recovery_run.Cause.{Cause}
use Rattle.verdict.specs.declared.branches.question.Question.{Question}

-- the lines of questions, each as often as it is asked
abbrev pub lines_of : List Question → List ℕ
lines_of questions = map (λ (q : Question). q.line) questions

-- the routine's run on the image, of at most so many steps, loads bytes of these lines that it hasn't stored itself, the first one first,
-- whatever it comes to
pub record IsLoaded (program : Sections) (steps : ℕ) (image : List (List ℕ)) (lines : List ℕ) : Type 0 where
  pub questions : List Question
  pub found : Result (List ℕ) Cause
  pub recovers : Recovers program image steps questions found
  pub same : lines ≡ lines_of questions

-- the routine's run on the image, of at most so many steps, comes to this answer, or to this cause why there is none
pub record IsAnswerOn (program : Sections) (image : List (List ℕ)) (steps : ℕ) (found : Result (List ℕ) Cause) : Type 0 where
  pub questions : List Question
  pub recovers : Recovers program image steps questions found
