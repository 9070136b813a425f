-- Which answers are right at the moments of a run, and which operations may overlap.
use Rattle.std.specs.Prelude.{ℕ, List}
use Rattle.program.specs.Sections.{Sections}
use Rattle.routine_judge.specs.SequentialRuns.{AreSequentialRuns, notes_in}
use Rattle.routine_judge.specs.Views.{ProgramView, RightBy, own_moments, sequential_runs}
use Rattle.routine_judge.specs.declared.history.overlap.Overlap.{Overlap}
use Rattle.routine_judge.specs.declared.history.overlap.Overlap.TheVariants as overlaps
use Rattle.routine_judge.specs.declared.judging.Judgement.{Judgement}
use Rattle.routine_judge.specs.declared.rule.ProgramRuns.{ProgramRuns}
use Rattle.routine_judge.specs.declared.rule.Rule.{Rule}
use Rattle.routine_judge.specs.declared.rule.Rule.TheVariants as rules

abbrev pub overlap_of : Rule → Overlap
overlap_of rules.InTurn = overlaps.Never
overlap_of rules.Overlapping = overlaps.Always
overlap_of (rules.Atomic runs) = overlaps.BetweenHarts

-- whose full images give the right answers
abbrev pub right_by : Rule → RightBy
right_by rules.InTurn = own_moments
right_by rules.Overlapping = own_moments
right_by (rules.Atomic runs) = sequential_runs runs.program.now runs.harts

-- how a run is judged: by a routine that makes so many steps on an image, which operations may overlap, and whose full images give the right
-- answers
pub record JudgementView : Type 0 where
  pub routine : Sections
  pub steps : ℕ
  pub overlap : Overlap
  pub right : RightBy

abbrev pub judgement_view : Judgement → JudgementView
judgement_view judgement = record {
  routine = judgement.recovery.now;
  steps = judgement.steps;
  overlap = overlap_of judgement.rule;
  right = right_by judgement.rule;
}

-- the program of these runs over a medium, with a routine that makes so many steps on an image
abbrev pub program_with : ProgramRuns → List (List ℕ) → Sections → ℕ → ProgramView
program_with runs medium routine steps =
    record { program = runs.program.now; medium = medium; harts = runs.harts; routine = routine; steps = steps }

-- all sequential runs of the program over this medium are noted, with what this routine comes to
abbrev pub AreNotedFor : List (List ℕ) → Sections → ℕ → Rule → Type 0
AreNotedFor medium routine steps rules.InTurn = Unit {0}
AreNotedFor medium routine steps rules.Overlapping = Unit {0}
AreNotedFor medium routine steps (rules.Atomic runs) = AreSequentialRuns (program_with runs medium routine steps) (notes_in runs.runs.now)
