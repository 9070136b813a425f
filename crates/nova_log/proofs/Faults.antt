-- The first fault of questions in a row.
use Rattle.std.proofs.Common.{◌≡◌, ℕ, zero, suc, ◌+◌, ◌<◌, ◌≤◌, List, [], ◌∷◌, ◌++◌, refl, arith, Option, Some, None}
use Rattle.std.specs.Option.{option_or}
use Rattle.std.specs.List.{flat_map, range_with_len}
use Rattle.nova_log.specs.Questions.{Question, first_fault}
use Rattle.nova_log.specs.declared.fault.VolumeFault.{VolumeFault}

or_none : (f g : Option VolumeFault) → option_or f g ≡ None → (f ≡ None) × (g ≡ None)
or_none None g e = (refl, e)
or_none (Some f) g e = absurd (cc)

pub clean_after : (p q : List Question) → first_fault p ≡ None → first_fault q ≡ None → first_fault (p ++ q) ≡ None
clean_after [] q e h = h
clean_after (x ∷ p) q e h = let b = or_none x.fault (first_fault p) e in rw b.0 (clean_after p q b.1 h)

pub clean_both : (p q : List Question) → first_fault (p ++ q) ≡ None → (first_fault p ≡ None) × (first_fault q ≡ None)
clean_both [] q e = (refl, e)
clean_both (x ∷ p) q e =
    let b = or_none x.fault (first_fault (p ++ q)) e in
    let r = clean_both p q b.1 in
    (rw b.0 r.0, r.1)

pub clean_range : (f : ℕ → List Question) (a n : ℕ) → ((k : ℕ) → a ≤ k → k < a + n → first_fault (f k) ≡ None) →
    first_fault (flat_map f (range_with_len a n)) ≡ None
clean_range f a zero h = refl
clean_range f a (suc n) h =
    clean_after (f a) (flat_map f (range_with_len (a + 1) n)) (h a (omega arith) (omega arith))
    (clean_range f (a + 1) n (λ k low high. h k (omega arith) (omega arith)))
