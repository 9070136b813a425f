-- Recovery over images by line: what it asks, and what is found, is the same throughout a branch.
use Rattle.std.proofs.Common.{◌≡◌, ℕ, zero, suc, ◌+◌, true, List, [], ◌∷◌, length, map, take, refl, sym, ap, subst, ◌∙◌, arith, Option, Some, None}
use Rattle.nova_log.specs.Volumes.{asked_lines, volume_of}
use Rattle.nova_log.proofs.Agreement.{Agrees, same_recovery}
use Rattle.nova_log.proofs.Tracking.{next_asked}
use Rattle.verdict.specs.Branches.{Agree, IsAdaptive, IsShared, same_number}
use Rattle.verdict.specs.CutImages.{AreByLine}
use Rattle.plan.specs.declared.operation.Operation.{Operation}
use Rattle.store_trace.specs.declared.event.Event.{Event}
use Rattle.image_check.specs.Images.{IsFound, IsFoundBy}
use Rattle.image_check.specs.Verdicts.{are_asked, whole_line}
use Rattle.verdict.specs.declared.branches.question.Question.{Question}
use Rattle.image_check.specs.declared.cause.Cause.{Cause}
use Rattle.image_check.specs.declared.cause.Cause.TheVariants.{Fault, Illegal}
use Rattle.image_check.specs.declared.legal.Outcomes.{Outcomes}

-- where a whole line is asked, being alike is to have the same number
number_same : (l n m : ℕ) → same_number (whole_line l) n m ≡ true → n ≡ m
number_same l n m h = grind (arith, h)

images_agree : (lines : ℕ) (image : (ℕ → ℕ) → List (List ℕ)) → AreByLine lines image → (c k : ℕ → ℕ) (ns : List ℕ) → Agree same_number k c (map whole_line ns) →
    Agrees (image c) (image k) ns
images_agree lines image by c k [] h = tt
images_agree lines image by c k (n ∷ ns) h = (by.decides c k n (number_same n (k n) (c n) h.0), images_agree lines image by c k ns h.1)

take_lines : (n : ℕ) (ns : List ℕ) → take n (map whole_line ns) ≡ map whole_line (take n ns)
take_lines zero ns = refl
take_lines (suc n) [] = refl
take_lines (suc n) (l ∷ ns) = ap (λ (qs : List Question). whole_line l ∷ qs) (take_lines n ns)

pub same_size : (lines : ℕ) (image : (ℕ → ℕ) → List (List ℕ)) → AreByLine lines image → (c k : ℕ → ℕ) → length (image k) ≡ length (image c)
same_size lines image by c k = by.count k ∙ sym (by.count c)

pub adaptive : (lines : ℕ) (image : (ℕ → ℕ) → List (List ℕ)) → AreByLine lines image → IsAdaptive same_number (λ k. are_asked (image k))
adaptive lines image by c k qs rs count a b h =
    let mine : List ℕ = asked_lines (image c) in
    let its : List ℕ = asked_lines (image k) in
    let agree : Agree same_number k c (map whole_line (take count mine)) =
    subst (λ (xs : List Question). Agree same_number k c xs) (ap (λ (xs : List Question). take count xs) a ∙ take_lines count mine) h in
    ap (λ (xs : List Question). take (count + 1) xs) b ∙ take_lines (count + 1) its
    ∙ ap (λ (xs : List ℕ). map whole_line xs) (next_asked (image c) (image k) (same_size lines image by c k) count (images_agree lines image by c k (take count mine) agree))
    ∙ sym (take_lines (count + 1) mine) ∙ ap (λ (xs : List Question). take (count + 1) xs) (sym a)

pub same_found : (lines : ℕ) (image : (ℕ → ℕ) → List (List ℕ)) → AreByLine lines image → (c k : ℕ → ℕ) (qs : List Question) → are_asked (image c) qs →
    Agree same_number k c qs → (asked_lines (image k) ≡ asked_lines (image c)) × (volume_of (image k) ≡ volume_of (image c))
same_found lines image by c k qs a h =
    same_recovery (image c) (image k) (same_size lines image by c k)
    (images_agree lines image by c k (asked_lines (image c)) (subst (λ (xs : List Question). Agree same_number k c xs) a h))

pub shared : (lines : ℕ) (image : (ℕ → ℕ) → List (List ℕ)) → AreByLine lines image → IsShared same_number (λ k. are_asked (image k))
shared lines image by c k qs a h = a ∙ ap (λ (xs : List ℕ). map whole_line xs) (sym (same_found lines image by c k qs a h).0)

-- what is found of an image is decided by its volume
found_by_volume : (plan : List Operation) (start : List (List ℕ)) (events : List Event) (m o : List (List ℕ)) (found : Option Cause) →
    volume_of o ≡ volume_of m → IsFound plan start events m found → IsFound plan start events o found
found_by_volume plan start events m o None e g = record { volume = g.volume; recovers = e ∙ g.recovers; legal = g.legal }
found_by_volume plan start events m o (Some (Fault fault)) e g = e ∙ g
found_by_volume plan start events m o (Some Illegal) e g = (g.0, e ∙ g.1, g.2)

-- so what is found of one is found of each image that agrees with it on what recovery asks,
pub found_alike : (plan : List Operation) (start : List (List ℕ)) (events : List Event) (lines : ℕ) (image : (ℕ → ℕ) → List (List ℕ)) → AreByLine lines image →
    (c k : ℕ → ℕ) (qs : List Question) (found : Option Cause) → are_asked (image c) qs → Agree same_number k c qs →
    IsFound plan start events (image c) found → IsFound plan start events (image k) found
found_alike plan start events lines image by c k qs found a h f =
    found_by_volume plan start events (image c) (image k) found (same_found lines image by c k qs a h).1 f

-- in one run, and in each that has come to the same outcomes
pub branchwise : (plan : List Operation) (outcomes : Outcomes) (lines : ℕ) (image : (ℕ → ℕ) → List (List ℕ)) → AreByLine lines image →
    (c k : ℕ → ℕ) (qs : List Question) (found : Option Cause) → are_asked (image c) qs → Agree same_number k c qs →
    IsFoundBy plan outcomes (image c) found → IsFoundBy plan outcomes (image k) found
branchwise plan outcomes lines image by c k qs found a h f = λ start events are apart.
    found_alike plan start events lines image by c k qs found a h (f start events are apart)
