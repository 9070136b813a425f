-- What recovery asks of an image, and whether it is legal, is settled by the lines that it asks.
use Rattle.std.proofs.Common.{◌≡◌, ℕ, Bool, List, [], ◌∷◌, length, map, refl, sym, ap, subst, ◌∙◌}
use Rattle.store_trace.proofs.Images.{length_image}
use Rattle.store_trace.specs.Image.{image}
use Rattle.verdict.proofs.Keeping.{AgreeIn, IsByLines}
use Rattle.verdict.specs.Keeping.{IsUnseen}
use Rattle.nova_log.specs.Volumes.{asked_lines, volume_of}
use Rattle.nova_log.proofs.Agreement.{Agrees, same_recovery}
use Rattle.verdict.specs.declared.branches.question.Question.{Question}
use Rattle.plan.specs.declared.operation.Operation.{Operation}
use Rattle.store_trace.specs.History.{history}
use Rattle.store_trace.specs.declared.event.Event.{Event}
use Rattle.store_trace.specs.declared.event.Event.TheVariants.{Store, Clean, Fence, Begin, End}
use Rattle.nova_log.specs.declared.volume.entry.Entry.{Entry}
use Rattle.image_check.specs.Images.{IsFound}
use Rattle.image_check.specs.Keeping.{KeepsPass}
use Rattle.image_check.specs.Legal.{IsLegal}
use Rattle.image_check.specs.Verdicts.{asks_at, found_at, whole_line}
use Rattle.image_check.proofs.Opening.{of_same_numbers}

-- images that agree on what recovery asks of one of them have the same questions and the same volume
agrees_in : (lines others : List (List ℕ)) (ls : List ℕ) → AgreeIn lines others (map whole_line ls) → Agrees lines others ls
agrees_in lines others [] h = tt
agrees_in lines others (l ∷ ls) h = (h.0, agrees_in lines others ls h.1)

same_asked : (start : List (List ℕ)) (before after : List Event) (c k : ℕ → ℕ) (questions : List Question) → asks_at start (history before) c questions →
    AgreeIn (image start c (history before)) (image start k (history after)) questions →
    (asked_lines (image start k (history after)) ≡ asked_lines (image start c (history before)))
    × (volume_of (image start k (history after)) ≡ volume_of (image start c (history before)))
same_asked start before after c k questions asks agree =
    let one = image start c (history before) in
    let other = image start k (history after) in
    let size : length other ≡ length one = length_image start k (history after) ∙ sym (length_image start c (history before)) in
    same_recovery one other size (agrees_in one other (asked_lines one) (subst (λ (qs : List Question). AgreeIn one other qs) asks agree))

-- from a moment to a later one at which what was legal is legal
pub by_lines : (plan : List Operation) (start : List (List ℕ)) (before after : List Event) →
    ((volume : List (List Entry)) → IsLegal plan (volume_of start) before volume → IsLegal plan (volume_of start) after volume) →
    IsByLines start (history before) (history after) (asks_at start (history before)) (asks_at start (history after)) (found_at plan start before)
    (found_at plan start after)
by_lines plan start before after legal = record {
  asked = λ c good. (map whole_line (asked_lines (image start c (history before))), refl);
  same = λ c k questions asks agree.
      asks ∙ ap (λ (ls : List ℕ). map whole_line ls) (sym (same_asked start before after c k questions asks agree).0);
  once = λ k questions others a b. a ∙ sym b;
  good = λ c k questions asks agree good.
      let same = (same_asked start before after c k questions asks agree).1 in
      record { volume = good.volume; recovers = same ∙ good.recovers; legal = legal good.volume good.legal };
  alike = λ k c found same f. of_same_numbers (λ medium. IsFound plan start before medium found) start (history before) k c same f;
}

pub unseen : (flags : List Bool) (event : Event) → KeepsPass flags event → IsUnseen flags event
unseen flags (Store hart line offset width value) keeps = keeps
unseen flags (Clean hart line) keeps = keeps
unseen flags (Fence hart) keeps = keeps
unseen flags (Begin hart op) keeps = keeps
unseen flags (End hart op) keeps = absurd keeps
