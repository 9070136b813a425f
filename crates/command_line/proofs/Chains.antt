-- Power cuts that are explained one after the other.
use Rattle.std.proofs.Common.{◌≡◌, ℕ, List, ◌∷◌}
use Rattle.std.specs.Prelude.{IfOk, Result, Ok, Err}
use Rattle.machine.specs.RunValues.{RunView}
use Rattle.program.specs.Sections.{Sections}
use Rattle.routine_judge.specs.declared.cuts.outcome.ChainLink.{ChainLink}
use Rattle.command_line.specs.CutReasons.{AreExplained, Begins, IsChainExplained, IsRecoveryOn, Lines}
use Rattle.command_line.specs.declared.cut_reasons.ExplainedCut.{ExplainedCut}
use Rattle.command_line.specs.declared.cut_reasons.ExplainedCuts.{ExplainedCuts}
use Rattle.command_line.specs.declared.failure.Failure.{Failure}

-- what comes later than the first of them
abbrev pub IsLater : Lines → List Lines → List ExplainedCut → Lines → List Lines → List ExplainedCut → Type 0
IsLater left later next before images cuts = (before ≡ left) × (images ≡ later) × (cuts ≡ next)

begins_with : (recovery : Sections) (steps : ℕ) (run : RunView) (link : ChainLink) (links : List ChainLink) (left : Lines) (later : List Lines)
    (next : List ExplainedCut) (images : List Lines) (cuts : List ExplainedCut) → Begins recovery steps run link (IsLater left later next) images cuts
    → AreExplained recovery steps links left later next → Begins recovery steps run link (AreExplained recovery steps links) images cuts
begins_with recovery steps run link links left later next images cuts begins further = record {
  left = begins.left;
  later = begins.later;
  cut = begins.cut;
  next = begins.next;
  images_are = begins.images_are;
  cuts_are = begins.cuts_are;
  leaves = begins.leaves;
  explained = begins.explained;
  further = rw (begins.further.0, begins.further.1, begins.further.2) further;
}

explained_more : (recovery : Sections) (steps : ℕ) (run : RunView) (link : ChainLink) (rest links : List ChainLink) (before left : Lines)
    (later : List Lines) (next : List ExplainedCut) (images : List Lines) (cuts : List ExplainedCut) → links ≡ link ∷ rest
    → IsRecoveryOn recovery steps before run → Begins recovery steps run link (IsLater left later next) images cuts
    → AreExplained recovery steps rest left later next → AreExplained recovery steps links before images cuts
explained_more recovery steps run link rest links before left later next images cuts is on begins further =
    rw is (run, on, begins_with recovery steps run link rest left later next images cuts begins further)

pub chain_more : (recovery : Sections) (steps : ℕ) (run : RunView) (link : ChainLink) (rest links : List ChainLink) (left : Lines)
    (later : List Lines) (next : List ExplainedCut) (images : List Lines) (cuts : List ExplainedCut) → links ≡ link ∷ rest
    → Begins recovery steps run link (IsLater left later next) images cuts
    → AreExplained recovery steps rest left later next → IsChainExplained recovery steps run links cuts
chain_more recovery steps run link rest links left later next images cuts is begins further =
    rw is (images, begins_with recovery steps run link rest left later next images cuts begins further)

pub explained_cuts_more : (recovery : Sections) (steps : ℕ) (run : RunView) (link : ChainLink) (rest links : List ChainLink) (before left : Lines)
    (later : ExplainedCuts) (result : Result ExplainedCuts Failure) → links ≡ link ∷ rest → IsRecoveryOn recovery steps before run
    → IfOk result (λ all. Begins recovery steps run link (IsLater left later.images.items later.cuts.items) all.images.items all.cuts.items)
    → AreExplained recovery steps rest left later.images.items later.cuts.items
    → IfOk result (λ all. AreExplained recovery steps links before all.images.items all.cuts.items)
explained_cuts_more recovery steps run link rest links before left later (Ok all) is on begins further =
    explained_more recovery steps run link rest links before left later.images.items later.cuts.items all.images.items all.cuts.items is on begins further
explained_cuts_more recovery steps run link rest links before left later (Err failure) is on begins further = tt
