-- Lines looked at byte by byte.
use Rattle.std.proofs.Common.{sym, ap, refl, ◌∙◌, arith, ◌≡◌, ◌≢◌, ℕ, suc, ◌+◌, ◌-◌, ◌/◌, ◌%◌, ◌^◌, ◌≤◌, ◌<◌, ◌&&◌, ◌||◌, Bool, true, false, not, eqb, inl, inr, List, length, get_or}
use Rattle.std.specs.Prelude.{drop}
use Rattle.std.proofs.lemmas.Bool.{cases_lt}
use Rattle.std.proofs.lemmas.Nat.{shr-shr}
use Rattle.std.proofs.Math.Nat.{div-eq_of_lt}
use Rattle.std.proofs.Math.Pow.{pow_mono}
use Rattle.recovery.proofs.Bytewise.{same_more}
use Rattle.recovery.specs.Images.{same_at}
use Rattle.verdict.specs.Branches.{none_of}
use Rattle.verdict.specs.Bytes.{has_byte}

-- a byte that is asked, or a later one, lies in the line
pub asked_below : (bytes at : ℕ) → bytes < 2 ^ 64 → bytes / 2 ^ at ≢ 0 → at < 64
asked_below bytes at fits some = elim (cases_lt at 64) [
  | inl less ↦ less
  | inr past ↦
      let most : 2 ^ 64 ≤ 2 ^ at = pow_mono past in
      absurd (some (div-eq_of_lt (let h : bytes < 2 ^ at = omega (arith, fits, most) in h)))
]

-- a byte that isn't asked, or is the same, decides nothing
not_asked : (has e b : Bool) → has ≡ false → ((not has || e) && b) ≡ b
not_asked has e b h = rw h refl

as_asked : (has e b : Bool) → e ≡ true → ((not has || e) && b) ≡ b
as_asked true e b h = rw h refl
as_asked false e b h = refl

other_asked : (has e b : Bool) → has ≡ true → e ≡ false → ((not has || e) && b) ≡ false
other_asked has e b h f = rw (h, f) refl

pub same_unasked : (bytes at d : ℕ) (xs ys : List ℕ) → at < length xs → at < length ys → has_byte bytes at ≡ false →
    same_at bytes at (drop at xs) (drop at ys) ≡ same_at bytes (at + 1) (drop (at + 1) xs) (drop (at + 1) ys)
same_unasked bytes at d xs ys less h f =
    same_more bytes at d xs ys less h
    ∙ not_asked (has_byte bytes at) (eqb (get_or xs at d) (get_or ys at d)) (same_at bytes (at + 1) (drop (at + 1) xs) (drop (at + 1) ys)) f

pub same_equal : (bytes at d : ℕ) (xs ys : List ℕ) → at < length xs → at < length ys → eqb (get_or xs at d) (get_or ys at d) ≡ true →
    same_at bytes at (drop at xs) (drop at ys) ≡ same_at bytes (at + 1) (drop (at + 1) xs) (drop (at + 1) ys)
same_equal bytes at d xs ys less h e =
    same_more bytes at d xs ys less h
    ∙ as_asked (has_byte bytes at) (eqb (get_or xs at d) (get_or ys at d)) (same_at bytes (at + 1) (drop (at + 1) xs) (drop (at + 1) ys)) e

pub same_differs : (bytes at d : ℕ) (xs ys : List ℕ) → at < length xs → at < length ys → has_byte bytes at ≡ true →
    eqb (get_or xs at d) (get_or ys at d) ≡ false → same_at bytes at (drop at xs) (drop at ys) ≡ false
same_differs bytes at d xs ys less h t f =
    same_more bytes at d xs ys less h
    ∙ other_asked (has_byte bytes at) (eqb (get_or xs at d) (get_or ys at d)) (same_at bytes (at + 1) (drop (at + 1) xs) (drop (at + 1) ys)) t f

-- eight bytes that aren't asked are passed at once
none_of_eight : (bytes at j : ℕ) → (bytes / 2 ^ at) / 2 ^ j % 2 ≡ 0 → has_byte bytes (at + j) ≡ false
none_of_eight bytes at j none = ap (λ (n : ℕ). eqb (n % 2) 1) (sym (shr-shr bytes at j)) ∙ ap (λ (n : ℕ). eqb n 1) none

same_later : (bytes at j : ℕ) (xs ys : List ℕ) → at + j < length xs → at + j < length ys → (bytes / 2 ^ at) / 2 ^ j % 2 ≡ 0 →
    same_at bytes (at + j) (drop (at + j) xs) (drop (at + j) ys) ≡ same_at bytes (at + suc j) (drop (at + suc j) xs) (drop (at + suc j) ys)
same_later bytes at j xs ys less h none =
    let next : at + j + 1 ≡ at + suc j = omega arith in
    same_unasked bytes (at + j) 0 xs ys less h (none_of_eight bytes at j none) ∙ ap (λ (n : ℕ). same_at bytes n (drop n xs) (drop n ys)) next

pub same_eight : (bytes at : ℕ) (xs ys : List ℕ) → length xs ≡ 64 → length ys ≡ 64 → at + 8 ≤ 64 → (bytes / 2 ^ at) % 256 ≡ 0 →
    same_at bytes at (drop at xs) (drop at ys) ≡ same_at bytes (at + 8) (drop (at + 8) xs) (drop (at + 8) ys)
same_eight bytes at xs ys one other there none =
    let begin : at ≡ at + 0 = omega arith in
    ap (λ (n : ℕ). same_at bytes n (drop n xs) (drop n ys)) begin
    ∙ same_later bytes at 0 xs ys (omega (arith, one, there)) (omega (arith, other, there)) (omega (arith, none))
    ∙ same_later bytes at 1 xs ys (omega (arith, one, there)) (omega (arith, other, there)) (omega (arith, none))
    ∙ same_later bytes at 2 xs ys (omega (arith, one, there)) (omega (arith, other, there)) (omega (arith, none))
    ∙ same_later bytes at 3 xs ys (omega (arith, one, there)) (omega (arith, other, there)) (omega (arith, none))
    ∙ same_later bytes at 4 xs ys (omega (arith, one, there)) (omega (arith, other, there)) (omega (arith, none))
    ∙ same_later bytes at 5 xs ys (omega (arith, one, there)) (omega (arith, other, there)) (omega (arith, none))
    ∙ same_later bytes at 6 xs ys (omega (arith, one, there)) (omega (arith, other, there)) (omega (arith, none))
    ∙ same_later bytes at 7 xs ys (omega (arith, one, there)) (omega (arith, other, there)) (omega (arith, none))

-- a number that isn't alike is passed
pub none_next : (holds : ℕ → Bool) (n end : ℕ) → n < end → holds n ≡ false → none_of holds n (end - n) ≡ none_of holds (n + 1) (end - (n + 1))
none_next holds n end less f =
    let e : end - n ≡ suc (end - (n + 1)) = omega (arith, less) in
    ap (λ (more : ℕ). none_of holds n more) e ∙ ap (λ (h : Bool). not h && none_of holds (n + 1) (end - (n + 1))) f
