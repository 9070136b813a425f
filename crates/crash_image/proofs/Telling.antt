-- The name that is told of a cut names that cut.
use Rattle.std.proofs.Common.{◌≡◌, ℕ, zero, suc, ◌+◌, ◌<◌, ◌≤◌, ◌==◌, nat_lt, true, false, List, [], ◌∷◌, length, get_or, inl, inr, refl, ap, ◌∙◌, sym, subst, arith}
use Rattle.std.specs.Prelude.{All, Contains, map}
use Rattle.std.proofs.lemmas.Bool.{cases_Bool}
use Rattle.std.proofs.lemmas.Bool.Decides.{nat_tests}
use Rattle.std.proofs.lemmas.List.{get_or-map, length-map}
use Rattle.std.proofs.lemmas.List.Elements.{All-filter}
use Rattle.store_trace.proofs.Lines.{Upwards, upwards_stored_lines}
use Rattle.store_trace.specs.Cut.{IsCut, numbered, stored_lines}
use Rattle.store_trace.specs.Floor.{floor}
use Rattle.store_trace.specs.declared.crash_model.step.PersistenceStep.{PersistenceStep}
use Rattle.text.specs.declared.image_name.name.ImageName.{ImageName}
use Rattle.text.specs.declared.image_name.name.ImageName.TheVariants.{Number, Cut}
use Rattle.crash_image.specs.Named.{HasLinesOf, IsNameOf, IsNamed, named_cut, number_or, raised}

-- a line below the lines of a cut isn't raised
below_raised : (p : List PersistenceStep) (cut : List (ℕ × ℕ)) (n l low : ℕ) → Upwards n (map (λ entry. entry.0) cut) → l < n →
    number_or (raised p cut) l low ≡ low
below_raised p [] n l low up h = refl
below_raised p (e ∷ cut) n l low up h =
    let rest : number_or (raised p cut) l low ≡ low = below_raised p cut (e.0 + 1) l low up.1 (omega (arith, h, up.0)) in
    let other : (e.0 == l) ≡ false = grind (arith, nat_tests, h, up.0) in
    elim (cases_Bool (nat_lt (floor e.0 p) e.1)) [
      | inl above ↦ rw (above, other) rest
      | inr level ↦ rw level rest
    ]

line_at_least : (n : ℕ) (cut : List (ℕ × ℕ)) (i : ℕ) (d : ℕ × ℕ) → Upwards n (map (λ entry. entry.0) cut) → i < length cut →
    n ≤ (get_or cut i d).0
line_at_least n [] i d up h = absurd (omega (arith, h))
line_at_least n (e ∷ cut) zero d up h = up.0
line_at_least n (e ∷ cut) (suc i) d up h =
    let more : e.0 + 1 ≤ (get_or cut i d).0 = line_at_least (e.0 + 1) cut i d up.1 (omega (arith, h)) in
    omega (arith, more, up.0)

-- each entry's number is told, or is its floor
entry_told : (p : List PersistenceStep) (cut : List (ℕ × ℕ)) (n i : ℕ) (d : ℕ × ℕ) → Upwards n (map (λ entry. entry.0) cut) →
    All (λ entry. floor entry.0 p ≤ entry.1) cut → i < length cut →
    number_or (raised p cut) (get_or cut i d).0 (floor (get_or cut i d).0 p) ≡ (get_or cut i d).1
entry_told p [] n i d up low h = absurd (omega (arith, h))
entry_told p (e ∷ cut) n zero d up low h =
    let first : floor e.0 p ≤ e.1 = low 0 e (omega arith) in
    let same : (e.0 == e.0) ≡ true = grind (arith, nat_tests) in
    elim (cases_Bool (nat_lt (floor e.0 p) e.1)) [
      | inl above ↦ rw (above, same) refl
      | inr level ↦ rw level (below_raised p cut (e.0 + 1) e.0 (floor e.0 p) up.1 (omega arith) ∙ grind (arith, nat_tests, first, level))
    ]
entry_told p (e ∷ cut) n (suc i) d up low h =
    let rest : number_or (raised p cut) (get_or cut i d).0 (floor (get_or cut i d).0 p) ≡ (get_or cut i d).1 =
    entry_told p cut (e.0 + 1) i d up.1 (λ k f b. low (suc k) f (omega (arith, b))) (omega (arith, h)) in
    let more : e.0 + 1 ≤ (get_or cut i d).0 = line_at_least (e.0 + 1) cut i d up.1 (omega (arith, h)) in
    let other : (e.0 == (get_or cut i d).0) ≡ false = grind (arith, nat_tests, more) in
    elim (cases_Bool (nat_lt (floor e.0 p) e.1)) [
      | inl above ↦ rw (above, other) rest
      | inr level ↦ rw level rest
    ]

numbered_again : (k : ℕ → ℕ) (cut : List (ℕ × ℕ)) → ((i : ℕ) (d : ℕ × ℕ) → i < length cut → k (get_or cut i d).0 ≡ (get_or cut i d).1) →
    numbered k (map (λ entry. entry.0) cut) ≡ cut
numbered_again k [] same = refl
numbered_again k (e ∷ cut) same =
    rw (same 0 e (omega arith)) (ap (λ (es : List (ℕ × ℕ)). e ∷ es) (numbered_again k cut (λ i d h. same (suc i) d (omega (arith, h)))))

told_cut : (p : List PersistenceStep) (cut : List (ℕ × ℕ)) → IsCut p cut → cut ≡ named_cut p (raised p cut)
told_cut p cut c =
    let up : Upwards 0 (map (λ (entry : ℕ × ℕ). entry.0) cut) = subst (λ (ls : List ℕ). Upwards 0 ls) (sym c.lines) (upwards_stored_lines p) in
    sym (numbered_again (λ l. number_or (raised p cut) l (floor l p)) cut (λ i d h. entry_told p cut 0 i d up c.low h))
    ∙ ap (λ (ls : List ℕ). numbered (λ l. number_or (raised p cut) l (floor l p)) ls) c.lines

told_lines : (p : List PersistenceStep) (cut : List (ℕ × ℕ)) → IsCut p cut → HasLinesOf p (raised p cut)
told_lines p cut c =
    All-filter (λ entry. nat_lt (floor entry.0 p) entry.1) (λ (line : ℕ × ℕ). Contains (stored_lines p) line.0) cut
    (λ i d h. subst (λ (ls : List ℕ). Contains ls (get_or cut i d).0) c.lines
    (i, omega (arith, h, length-map cut (λ (e : ℕ × ℕ). e.0)), get_or-map (λ e. e.0) cut i d (get_or cut i d).0 h))

pub told_names : (p : List PersistenceStep) (cut : List (ℕ × ℕ)) (name : ImageName) → IsCut p cut → IsNameOf p cut name → IsNamed p name cut
told_names p cut (Number n) c t = t
told_names p cut (Cut lines) c t = rw t.1 (c, told_cut p cut c, told_lines p cut c)

pub named_once : (p : List PersistenceStep) (name : ImageName) (cut other : List (ℕ × ℕ)) → IsNamed p name cut → IsNamed p name other → cut ≡ other
named_once p (Number n) cut other a b = a.2 ∙ sym b.2
named_once p (Cut lines) cut other a b = a.1 ∙ sym b.1
