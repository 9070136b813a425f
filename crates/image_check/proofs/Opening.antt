-- The images of a moment, and its verdict, by other names.
use Rattle.std.proofs.Common.{◌≡◌, ℕ, Bool, true, false, List, length, take, sym, ap, subst, ◌∙◌, Option, Some, None, true≢false}
use Rattle.std.proofs.lemmas.List.{length-replicate}
use Rattle.std.specs.Prelude.{All, replicate}
use Rattle.store_trace.proofs.Images.{image_same}
use Rattle.store_trace.specs.Image.{image}
use Rattle.store_trace.specs.declared.crash_model.step.PersistenceStep.{PersistenceStep}
use Rattle.plan.specs.declared.operation.Operation.{Operation}
use Rattle.line_memory.specs.Lines.{IsMedium}
use Rattle.store_trace.specs.History.{at_moment}
use Rattle.store_trace.specs.TraceView.{IsEvent}
use Rattle.store_trace.specs.declared.event.Event.{Event}
use Rattle.image_check.specs.Images.{IsFoundBy}
use Rattle.verdict.specs.CutImages.{AreMedia, image_at}
use Rattle.image_check.specs.Growth.{AreApart, AreOutcomes}
use Rattle.nova_log.specs.Volumes.{volume_of}
use Rattle.std.specs.Result.{result_ok}
use Rattle.store_trace.specs.Cut.{number_in}
use Rattle.verdict.specs.declared.branches.question.Question.{Question}
use Rattle.verdict.specs.declared.moment_verdict.verdict.MomentVerdict.TheVariants as moments
use Rattle.verdict.specs.Branches.{same_number}
use Rattle.verdict.specs.Verdicts as verdicts
use Rattle.image_check.specs.Verdicts.{IsMomentVerdict, asks_at, found_at}
use Rattle.verdict.specs.declared.moment_verdict.verdict.MomentVerdict.{MomentVerdict}
use Rattle.verdict.proofs.CutLines as images
use Rattle.image_check.specs.declared.cause.Cause.{Cause}
use Rattle.image_check.specs.declared.legal.Outcomes.{Outcomes}

-- what holds of the image of a cut holds of that of each that gives the lines the same numbers
pub of_same_numbers : (P : List (List ℕ) → Type 0) (start : List (List ℕ)) (p : List PersistenceStep) (k c : ℕ → ℕ) → ((l : ℕ) → k l ≡ c l) →
    P (image start c p) → P (image start k p)
of_same_numbers P start p k c same h = subst P (sym (image_same start k c p same)) h

-- a verdict by what is found says the same by what follows from that
weaker : (asks : (ℕ → ℕ) → List Question → Type 0) (found other : (ℕ → ℕ) → Option Cause → Type 0) (p : List PersistenceStep) (verdict : MomentVerdict Cause) →
    ((k : ℕ → ℕ) (o : Option Cause) → found k o → other k o) → verdicts.IsMomentVerdict false same_number asks found p verdict →
    verdicts.IsMomentVerdict false same_number asks other p verdict
weaker asks found other p moments.Pass w h = (h.0, λ cut is. w (number_in cut) None (h.1 cut is))
weaker asks found other p (moments.Fail name cause false) w h = (
  h.0,
  (
    h.1.0,
    h.1.1,
    record {
      there = h.1.2.there;
      bad = w (number_in h.1.0) (Some cause) h.1.2.bad;
      least = λ cut is before. w (number_in cut) None (h.1.2.least cut is before);
    },
  ),
)
weaker asks found other p (moments.Fail name cause true) w h = absurd (true≢false (sym h.1))
weaker asks found other p (moments.TooMany None) w h = h
weaker asks found other p (moments.TooMany (Some named)) w h = absurd (true≢false (sym h.1))
weaker asks found other p moments.TooLong w h = h

-- the verdict by the branches that were opened, over the index's lines and events
pub opened_moment : (plan : List Operation) (outcomes : Outcomes) (start medium : List (List ℕ)) (all events : List Event)
    (moment m : ℕ) (verdict : MomentVerdict Cause) → start ≡ medium → all ≡ events → m ≡ moment →
    AreOutcomes plan (result_ok (volume_of medium)) (take moment events) outcomes.settled outcomes.under_way.items → AreApart plan (take moment events) →
    verdicts.IsMomentVerdict false same_number (asks_at start (at_moment all m)) (λ k. IsFoundBy plan outcomes (image_at start all m k)) (at_moment events moment) verdict →
    IsMomentVerdict plan medium (take moment events) verdict
opened_moment plan outcomes start medium all events moment m verdict s e n are apart h =
    weaker (asks_at medium (at_moment events moment)) (λ k. IsFoundBy plan outcomes (image_at medium events moment k)) (found_at plan medium (take moment events))
    (at_moment events moment) verdict (λ k o f. f medium (take moment events) are apart)
    (subst (λ (x : List (List ℕ)). verdicts.IsMomentVerdict false same_number (asks_at x (at_moment events moment))
    (λ k. IsFoundBy plan outcomes (image_at x events moment k)) (at_moment events moment) verdict) s
    (subst (λ (es : List Event). verdicts.IsMomentVerdict false same_number (asks_at start (at_moment es moment))
    (λ k. IsFoundBy plan outcomes (image_at start es moment k)) (at_moment events moment) verdict) e
    (subst (λ (i : ℕ). verdicts.IsMomentVerdict false same_number (asks_at start (at_moment all i))
    (λ k. IsFoundBy plan outcomes (image_at start all i k)) (at_moment events moment) verdict) n h)))

-- every image of a moment is a medium
pub images_whole : (start : List (List ℕ)) (all events : List Event) (moment : ℕ) → all ≡ events → IsMedium start → All IsEvent events → AreMedia start all moment
images_whole start all events moment e m a = images.images_whole start all moment m (subst (λ (es : List Event). All IsEvent es) (sym e) a)

pub opener_size : (count : ℕ) (start medium : List (List ℕ)) (flags : List Bool) → count ≡ length start → start ≡ medium → flags ≡ replicate count false →
    length flags ≡ length medium
opener_size count start medium flags c s f =
    ap (λ (bs : List Bool). length bs) f ∙ length-replicate count false ∙ c ∙ ap (λ (m : List (List ℕ)). length m) s
