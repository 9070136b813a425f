-- The lines of an image, read from the index of the trace.
use Rattle.std.proofs.Common.{◌≡◌, ℕ, ◌<◌, ◌≤◌, List, [], ◌∷◌, ◌++◌, length, take, drop, sym, ap, subst, ◌∙◌, arith}
use Rattle.std.specs.Prelude.{All}
use Rattle.std.proofs.lemmas.Bool.Decides.{nat_tests}
use Rattle.std.proofs.lemmas.List.{take-append-drop}
use Rattle.std.proofs.lemmas.List.Elements.{All-take}
use Rattle.crash_image.proofs.Lined.{image_is_medium}
use Rattle.store_trace.proofs.Images.{image_line}
use Rattle.store_trace.specs.Image.{line_after}
use Rattle.store_trace.specs.Stores.{stores}
use Rattle.store_trace.specs.declared.crash_model.step.PersistenceStep.{PersistenceStep}
use Rattle.store_trace.specs.declared.crash_model.step.PersistenceStep.TheVariants as step
use Rattle.verdict.proofs.Keeping.{history_append}
use Rattle.verdict.specs.CutImages.{AreMedia, image_at}
use Rattle.line_memory.specs.Lines.{IsMedium, line_at}
use Rattle.store_trace.specs.History.{at_moment, history}
use Rattle.store_trace.specs.TraceView.{IsEvent}
use Rattle.store_trace.specs.declared.event.Event.{Event}

-- every image of a moment is a medium where the first one is
pub images_whole : (start : List (List ℕ)) (events : List Event) (moment : ℕ) → IsMedium start → All IsEvent events → AreMedia start events moment
images_whole start events moment m a = λ cut. image_is_medium start cut (take moment events) m (All-take IsEvent moment events a)

-- a line of an image of a moment
pub shown_line : (start : List (List ℕ)) (events : List Event) (moment : ℕ) (cut : ℕ → ℕ) (n number : ℕ) (bytes : List ℕ) →
    n < length start → cut n ≡ number →
    bytes ≡ line_after (line_at start n) n number (at_moment events moment) → bytes ≡ line_at (image_at start events moment cut) n
shown_line start events moment cut n number bytes h k b =
    b ∙ ap (λ (i : ℕ). line_after (line_at start n) n i (at_moment events moment)) (sym k)
    ∙ sym (image_line start cut (at_moment events moment) n [] [] h)

-- the same by the lines and events of the index of a trace
pub images_of : (start medium : List (List ℕ)) (all events : List Event) (moment : ℕ) → start ≡ medium → all ≡ events → IsMedium medium → All IsEvent events →
    AreMedia start all moment
images_of start medium all events moment s e m a =
    subst (λ (lines : List (List ℕ)). AreMedia lines all moment) (sym s) (subst (λ (es : List Event). AreMedia medium es moment) (sym e) (images_whole medium events moment m a))

stores_later : (l : ℕ) (q p : List PersistenceStep) → stores l p ≤ stores l (q ++ p)
stores_later l [] p = omega arith
stores_later l (step.Store m o w v ∷ q) p = grind (arith, nat_tests, stores_later l q p)
stores_later l (step.Clean h m ∷ q) p = stores_later l q p
stores_later l (step.Fence h ∷ q) p = stores_later l q p
stores_later l (step.Evict m ∷ q) p = stores_later l q p

-- a moment has no more stores than the whole trace
pub stores_at_moment : (l : ℕ) (events : List Event) (moment : ℕ) → stores l (at_moment events moment) ≤ stores l (history events)
stores_at_moment l events moment =
    let e : history events ≡ history (drop moment events) ++ at_moment events moment =
    ap (λ (es : List Event). history es) (sym (take-append-drop moment events)) ∙ history_append (take moment events) (drop moment events) in
    subst (λ (p : List PersistenceStep). stores l (at_moment events moment) ≤ stores l p) (sym e)
    (stores_later l (history (drop moment events)) (at_moment events moment))
