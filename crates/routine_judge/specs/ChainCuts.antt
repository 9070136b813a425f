-- A cut in recovery that a chain of power cuts gets.
use Rattle.std.specs.Prelude.{◌≡◌, ℕ, ◌++◌, ◌∷◌, [], length}
use Rattle.program.specs.Sections.{Sections}
use Rattle.recovery.specs.Cuts.{shown_at}
use Rattle.recovery.specs.declared.routine.TracedRun.{TracedRun}
use Rattle.routine_judge.specs.Chains.{IsCutIn}
use Rattle.routine_judge.specs.CutVerdicts.{IsImageAt}
use Rattle.routine_judge.specs.declared.cuts.chain.ChainSoFar.{ChainSoFar}
use Rattle.routine_judge.specs.declared.cuts.chain.FurtherCut.{FurtherCut}
use Rattle.routine_judge.specs.declared.cuts.outcome.ChainLink.{ChainLink}

-- the cut comes at a moment of a run on what a chain leaves, or after its end
pub record IsCutOver (chain : ChainSoFar) (run : TracedRun) (cut : FurtherCut) : Type 0 where
  pub image_at : IsImageAt chain.image run.trace.events cut.link.moment cut.link.image cut.image
  pub shows : cut.shown ≡ shown_at cut.link.moment (length run.trace.events) run.found chain.shown

-- a chain has one cut more than another one, in the recovery on what that leaves
pub record IsFurther (program : Sections) (steps : ℕ) (old new : ChainSoFar) : Type 0 where
  pub link : ChainLink
  pub longer : new.links.items ≡ old.links.items ++ link ∷ []
  pub cut_in : IsCutIn program steps old.image old.shown link new.image new.shown
