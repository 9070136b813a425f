-- What is found of an image stands for what that means: so a verdict does.
use Rattle.std.proofs.Common.{ℕ, Bool, true, false, List, [], ◌∷◌, Option, None, Some}
use Rattle.verdict.specs.Branches.{IsLeastBad as IsLeastOf}
use Rattle.verdict.specs.Edges.{AreAllGood, AreTried, IsBadCut, edges}
use Rattle.verdict.specs.ImagesVerdicts.{IsImagesVerdict}
use Rattle.verdict.specs.Verdicts.{IsLeastBad, IsMomentVerdict}
use Rattle.verdict.specs.declared.branches.question.Question.{Question}
use Rattle.verdict.specs.declared.images_verdict.ImagesVerdict.{ImagesVerdict}
use Rattle.verdict.specs.declared.images_verdict.ImagesVerdict.TheVariants as images
use Rattle.verdict.specs.declared.moment_verdict.verdict.MomentVerdict.{MomentVerdict}
use Rattle.verdict.specs.declared.moment_verdict.verdict.MomentVerdict.TheVariants as moments
use Rattle.store_trace.specs.Cut.{number_in}
use Rattle.store_trace.specs.declared.crash_model.step.PersistenceStep.{PersistenceStep}

-- whatever is found of a cut means something else of it
abbrev pub IsMeant : {Cause : Type 0} → ((ℕ → ℕ) → Option Cause → Type 0) → ((ℕ → ℕ) → Option Cause → Type 0) → Type 0
IsMeant found other = (k : ℕ → ℕ) (cause : Option _) → found k cause → other k cause

all_meant : {Cause : Type 0} (found other : (ℕ → ℕ) → Option Cause → Type 0) (cuts : List (ℕ → ℕ)) → IsMeant found other → AreAllGood found cuts → AreAllGood other cuts
all_meant found other [] m h = tt
all_meant found other (k ∷ cuts) m h = (m k None h.0, all_meant found other cuts m h.1)

tried_meant : {Cause : Type 0} (asks : (ℕ → ℕ) → List Question → Type 0) (found other : (ℕ → ℕ) → Option Cause → Type 0) (low high : ℕ → ℕ) (lines : List ℕ) →
    IsMeant found other → AreTried asks found low high lines → AreTried asks other low high lines
tried_meant asks found other low high lines m t = record {
  asked = t.asked;
  at_floors = t.at_floors;
  good = all_meant found other (edges low high lines) m t.good;
}

bad_meant : {Cause : Type 0} (found other : (ℕ → ℕ) → Option Cause → Type 0) (low high : ℕ → ℕ) (numbers : List ℕ) (cause : Cause) → IsMeant found other →
    IsBadCut found low high numbers cause → IsBadCut other low high numbers cause
bad_meant found other low high numbers cause m b = record { within = b.within; bad = m _ (Some cause) b.bad }

least_meant : {Cause : Type 0} (found other : (ℕ → ℕ) → Option Cause → Type 0) (low high c : ℕ → ℕ) (cause : Cause) → IsMeant found other →
    IsLeastOf low high found c cause → IsLeastOf low high other c cause
least_meant found other low high c cause m b = record {
  within = b.within;
  bad = m c (Some cause) b.bad;
  least = λ k within before. m k None (b.least k within before);
}

pub images_meant : {Cause : Type 0} (further : Bool) (alike : Question → ℕ → ℕ → Bool) (asks : (ℕ → ℕ) → List Question → Type 0) (found other : (ℕ → ℕ) → Option Cause → Type 0)
    (low high : ℕ → ℕ) (lines : ℕ) (verdict : ImagesVerdict Cause) → IsMeant found other →
    IsImagesVerdict further alike asks found low high lines verdict → IsImagesVerdict further alike asks other low high lines verdict
images_meant further alike asks found other low high lines images.Pass m v = (v.0, λ k within. m k None (v.1 k within))
images_meant further alike asks found other low high lines (images.Bad numbers cause false) m v =
    (v.0, least_meant found other low high _ cause m v.1, v.2)
images_meant further alike asks found other low high lines (images.Bad numbers cause true) m v =
    (v.0, v.1, bad_meant found other low high numbers.items cause m v.2, v.3)
images_meant further alike asks found other low high lines images.TooMany m v =
    (v.0, λ t. let its = v.1 t in (its.0, tried_meant asks found other low high its.0 m its.1))

pub moment_meant : {Cause : Type 0} (further : Bool) (alike : Question → ℕ → ℕ → Bool) (asks : (ℕ → ℕ) → List Question → Type 0) (found other : (ℕ → ℕ) → Option Cause → Type 0)
    (p : List PersistenceStep) (verdict : MomentVerdict Cause) → IsMeant found other →
    IsMomentVerdict further alike asks found p verdict → IsMomentVerdict further alike asks other p verdict
moment_meant further alike asks found other p moments.Pass m v = (v.0, λ cut is. m (number_in cut) None (v.1 cut is))
moment_meant further alike asks found other p (moments.Fail name cause false) m v =
    let its = v.1.2 in
    let least : IsLeastBad other p v.1.0 cause = record {
      there = its.there;
      bad = m (number_in v.1.0) (Some cause) its.bad;
      least = λ cut is before. m (number_in cut) None (its.least cut is before);
    } in
    (v.0, (v.1.0, v.1.1, least))
moment_meant further alike asks found other p (moments.Fail name cause true) m v =
    (v.0, v.1, (v.2.0, v.2.1, (v.2.2.0, m (number_in v.2.0) (Some cause) v.2.2.1)))
moment_meant further alike asks found other p (moments.TooMany None) m v = v
moment_meant further alike asks found other p (moments.TooMany (Some named)) m v =
    (v.0, v.1, (v.2.0, tried_meant asks found other _ _ v.2.0 m v.2.1, v.2.2))
moment_meant further alike asks found other p moments.TooLong m v = v
