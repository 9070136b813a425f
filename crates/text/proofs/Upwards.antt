-- Lines that go upwards, as far as they are looked at.
use Rattle.std.proofs.Common.{◌≡◌, ◌<◌, ◌≤◌, ◌+◌, ◌-◌, ℕ, List, length, map, get_or, inl, inr, subst, arith}
use Rattle.std.proofs.lemmas.List.{get_or-map, length-map}
use Rattle.std.proofs.lemmas.Bool.{cases_lt}
use Rattle.text.specs.Grammar.{IsUpward}

abbrev line : ℕ × ℕ → ℕ
line entry = entry.0

-- each line before this place is below the next one
pub record UpwardBelow (entries : List (ℕ × ℕ)) (at : ℕ) : Type 0 where
  pub below : (k : ℕ) → k + 1 < at → get_or (map (λ entry. entry.0) entries) k 0 < get_or (map (λ entry. entry.0) entries) (k + 1) 0

line_at : (entries : List (ℕ × ℕ)) (k : ℕ) (d : ℕ × ℕ) → k < length entries
    → get_or (map (λ (entry : ℕ × ℕ). entry.0) entries) k 0 ≡ line (get_or entries k d)
line_at entries k d inside = get_or-map line entries k d 0 inside

pub one_more : (entries : List (ℕ × ℕ)) (at : ℕ) (d : ℕ × ℕ) → 1 ≤ at → at < length entries
    → line (get_or entries (at - 1) d) < line (get_or entries at d) → UpwardBelow entries at → UpwardBelow entries (at + 1)
one_more entries at d low inside rises up = record {
  below = λ k before. elim (cases_lt (k + 1) at) [
    | inl less ↦ up.below k less
    | inr last ↦
        let here : k + 1 ≡ at = omega arith in
        let one = line_at entries (at - 1) d (omega arith) in
        let other = line_at entries at d inside in
        let P : ℕ → ℕ → Type 0 = λ m n. get_or (map (λ (entry : ℕ × ℕ). entry.0) entries) m 0 < get_or (map (λ (entry : ℕ × ℕ). entry.0) entries) n 0 in
        let both : P (at - 1) at = omega arith in
        let first : P k at = subst (λ m. P m at) (let e : at - 1 ≡ k = omega arith in e) both in
        subst (P k) (let e : at ≡ k + 1 = omega arith in e) first
  ];
}

-- one line that isn't above the line before it
pub not_upward : (entries : List (ℕ × ℕ)) (at : ℕ) (d : ℕ × ℕ) → 1 ≤ at → at < length entries
    → line (get_or entries at d) ≤ line (get_or entries (at - 1) d) → IsUpward entries → ⊥
not_upward entries at d low inside falls up =
    let one = line_at entries (at - 1) d (omega arith) in
    let other = line_at entries at d inside in
    let P : ℕ → Type 0 = λ n. get_or (map (λ (entry : ℕ × ℕ). entry.0) entries) (at - 1) 0 < get_or (map (λ (entry : ℕ × ℕ). entry.0) entries) n 0 in
    let next : at - 1 + 1 ≡ at = omega arith in
    let rises : P at = subst P next (up (at - 1) (omega (arith, length-map {A = ℕ × ℕ} {B = ℕ}))) in
    omega arith
