-- What power cuts leave while a recovery routine runs, or after it has ended: images of images.
-- Source: durable linearizability (Izraelevitz, Mendes, Scott, DISC 2016), where the exit of a recovery shows its answer; crash images as in
-- Vinter, USENIX ATC 2022.
use Rattle.std.specs.Prelude.{◌≡◌, ℕ, zero, suc, ◌≤◌, ◌==◌, Bool, List, Option, Some, None, Result, Ok, Err, length, if◌then◌else◌, IfSome}
use Rattle.program.specs.Sections.{Sections}
use Rattle.store_trace.specs.Cut.{IsWithin}
use Rattle.store_trace.specs.History.{at_moment}
use Rattle.store_trace.specs.Image.{image}
use Rattle.machine.specs.Replies.{trace_in}
use Rattle.machine.specs.Run.{Config, started}
use Rattle.recovery.specs.Answers.{answer}
use Rattle.recovery.specs.Images.{AnswersOn}
use Rattle.recovery.specs.Recovery.{RunsFor}
use Rattle.recovery.specs.declared.recovery_run.Cause.{Cause}

-- what was shown when the power is cut at a moment of a run with so many events, which comes to this: at its last moment, which is also the time
-- after its end, its answer, where it has one; else what was shown before it
abbrev pub shown_at : ℕ → ℕ → Result (List ℕ) Cause → Option (List ℕ) → Option (List ℕ)
shown_at moment events (Ok bytes) earlier = if moment == events then Some bytes else earlier
shown_at moment events (Err cause) earlier = earlier

-- a cut while the routine runs on a medium, or after it has ended there, leaves this image, with what was shown until then
pub record IsCutOf (program : Sections) (steps : ℕ) (before : List (List ℕ)) (earlier : Option (List ℕ)) (left : List (List ℕ)) (shown : Option (List ℕ)) : Type 0 where
  pub end : Config
  pub full : Bool
  pub runs : RunsFor (started program before 1) steps end full
  pub moment : ℕ
  pub there : moment ≤ length (trace_in end.common)
  pub cut : ℕ → ℕ
  pub within : IsWithin (at_moment (trace_in end.common) moment) cut
  pub leaves : left ≡ image before cut (at_moment (trace_in end.common) moment)
  pub shows : shown ≡ shown_at moment (length (trace_in end.common)) (answer end full) earlier

-- so many cuts in recovery leave this image of the images of a first cut, before which nothing was shown
abbrev pub IsLeft : Sections → ℕ → (List (List ℕ) → Type 0) → ℕ → List (List ℕ) → Option (List ℕ) → Type 0
IsLeft program steps first zero left shown = first left × (shown ≡ None)
IsLeft program steps first (suc cuts) left shown =
    (before : List (List ℕ)) × (earlier : Option (List ℕ)) × IsLeft program steps first cuts before earlier × IsCutOf program steps before earlier left shown

-- the routine has an answer on an image, a right one, and the one that was shown where one was
pub record AnswersWell (program : Sections) (steps : ℕ) (right : List ℕ → Type 0) (left : List (List ℕ)) (shown : Option (List ℕ)) : Type 0 where
  pub bytes : List ℕ
  pub answers : AnswersOn program steps left (Ok bytes)
  pub is_right : right bytes
  pub stays : IfSome shown (λ was. bytes ≡ was)
