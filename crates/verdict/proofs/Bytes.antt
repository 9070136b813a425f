-- Which bytes the sets have.
use Rattle.std.proofs.Common.{◌≡◌, ℕ, zero, suc, ◌+◌, ◌-◌, ◌*◌, ◌/◌, ◌%◌, ◌^◌, ◌≤◌, ◌<◌, Bool, true, false, not, eqb, ◌&&◌, ◌||◌, nat_le, nat_lt, inl, inr, refl, sym, ap, ◌∙◌, arith}
use Rattle.std.specs.Prelude.{bit_and, bit_or, bit_xor}
use Rattle.std.proofs.lemmas.Bool.{cases_lt, le-leb, lt-leb, le-ltb, lt-ltb}
use Rattle.std.proofs.Math.Nat.{div-eq_of_lt, mul_assoc, mul-add, suc-mul, two-pow-succ}
use Rattle.std.proofs.Math.Pow.{pow_mono}
use Rattle.std.proofs.lemmas.Nat.{and_mod, and_shr, or_mod, or_shr, xor_mod, xor_shr, pow-add, pow_pos, shl-shr, shr-shr, shr_high, shr_le, mod_below}
use Rattle.verdict.specs.Bytes.{access_bytes, has_byte, without}

-- a bit is 0 or 1
or_bit : (x y : ℕ) → x < 2 → y < 2 → eqb (bit_or x y) 1 ≡ (eqb x 1 || eqb y 1)
or_bit zero zero a b = refl
or_bit zero (suc zero) a b = refl
or_bit (suc zero) zero a b = refl
or_bit (suc zero) (suc zero) a b = refl
or_bit zero (suc (suc y)) a b = absurd (omega (arith, b))
or_bit (suc zero) (suc (suc y)) a b = absurd (omega (arith, b))
or_bit (suc (suc x)) y a b = absurd (omega (arith, a))

without_bit : (x y : ℕ) → x < 2 → y < 2 → eqb (bit_xor x (bit_and x y)) 1 ≡ (eqb x 1 && not (eqb y 1))
without_bit zero zero a b = refl
without_bit zero (suc zero) a b = refl
without_bit (suc zero) zero a b = refl
without_bit (suc zero) (suc zero) a b = refl
without_bit zero (suc (suc y)) a b = absurd (omega (arith, b))
without_bit (suc zero) (suc (suc y)) a b = absurd (omega (arith, b))
without_bit (suc (suc x)) y a b = absurd (omega (arith, a))

pub or_has : (a b i : ℕ) → has_byte (bit_or a b) i ≡ (has_byte a i || has_byte b i)
or_has a b i =
    ap (λ (n : ℕ). eqb (n % 2) 1) (or_shr a b i) ∙ ap (λ (n : ℕ). eqb n 1) (or_mod (a / 2 ^ i) (b / 2 ^ i) 1)
    ∙ or_bit ((a / 2 ^ i) % 2) ((b / 2 ^ i) % 2) (mod_below (a / 2 ^ i) 2 (omega arith)) (mod_below (b / 2 ^ i) 2 (omega arith))

pub without_has : (a b i : ℕ) → has_byte (without a b) i ≡ (has_byte a i && not (has_byte b i))
without_has a b i =
    ap (λ (n : ℕ). eqb (n % 2) 1) (xor_shr a (bit_and a b) i ∙ ap (λ (n : ℕ). bit_xor (a / 2 ^ i) n) (and_shr a b i))
    ∙ ap (λ (n : ℕ). eqb n 1) (xor_mod (a / 2 ^ i) (bit_and (a / 2 ^ i) (b / 2 ^ i)) 1 ∙ ap (λ (n : ℕ). bit_xor ((a / 2 ^ i) % 2) n) (and_mod (a / 2 ^ i) (b / 2 ^ i) 1))
    ∙ without_bit ((a / 2 ^ i) % 2) ((b / 2 ^ i) % 2) (mod_below (a / 2 ^ i) 2 (omega arith)) (mod_below (b / 2 ^ i) 2 (omega arith))

pub nothing_has : (i : ℕ) → has_byte 0 i ≡ false
nothing_has i = let z : 0 / 2 ^ i ≡ 0 = (let h = shr_le 0 i in omega (arith, h)) in ap (λ (n : ℕ). eqb (n % 2) 1) z

-- below the first byte of an access, among its bytes, and past them
below_access : (width offset i : ℕ) → i < offset → (access_bytes offset width / 2 ^ i) % 2 ≡ 0
below_access width offset i less =
    let k : ℕ = offset - i - 1 in
    let x : ℕ = 2 ^ width - 1 in
    let e : offset ≡ suc k + i = omega (arith, less) in
    let split : 2 ^ offset ≡ 2 ^ suc k * 2 ^ i = ap (λ (n : ℕ). 2 ^ n) e ∙ pow-add 2 (suc k) i in
    let shifted : access_bytes offset width / 2 ^ i ≡ x * 2 ^ suc k =
    ap (λ (n : ℕ). (x * n) / 2 ^ i) split ∙ ap (λ (n : ℕ). n / 2 ^ i) (sym (mul_assoc x (2 ^ suc k) (2 ^ i))) ∙ shl-shr (x * 2 ^ suc k) i in
    let twice : x * 2 ^ suc k ≡ x * 2 ^ k + x * 2 ^ k = ap (λ (n : ℕ). x * n) (two-pow-succ k) ∙ mul-add x (2 ^ k) (2 ^ k) in
    omega (arith, shifted, twice)

in_access : (width offset i : ℕ) → offset ≤ i → i < offset + width → (access_bytes offset width / 2 ^ i) % 2 ≡ 1
in_access width offset i le less =
    let j : ℕ = i - offset in
    let k : ℕ = width - j - 1 in
    let x : ℕ = 2 ^ width - 1 in
    let at : offset + j ≡ i = omega (arith, le) in
    let e : width ≡ suc k + j = omega (arith, le, less) in
    let shifted : access_bytes offset width / 2 ^ i ≡ x / 2 ^ j =
    ap (λ (n : ℕ). access_bytes offset width / 2 ^ n) (sym at) ∙ sym (shr-shr (access_bytes offset width) offset j) ∙ ap (λ (n : ℕ). n / 2 ^ j) (shl-shr x offset) in
    let split : 2 ^ width ≡ 2 ^ suc k * 2 ^ j = ap (λ (n : ℕ). 2 ^ n) e ∙ pow-add 2 (suc k) j in
    let p : ℕ = 2 ^ suc k - 1 in
    let some : 0 < 2 ^ suc k = pow_pos (suc k) in
    let least : 0 < 2 ^ j = pow_pos j in
    let whole : 2 ^ suc k ≡ suc p = omega (arith, some) in
    let product : 2 ^ suc k * 2 ^ j ≡ p * 2 ^ j + 2 ^ j = ap (λ (n : ℕ). n * 2 ^ j) whole ∙ suc-mul p (2 ^ j) in
    let parts : x ≡ p * 2 ^ j + (2 ^ j - 1) = omega (arith, split, product, least) in
    let high : x / 2 ^ j ≡ p = ap (λ (n : ℕ). n / 2 ^ j) parts ∙ shr_high p j (2 ^ j - 1) (omega (arith, least)) in
    let twice = two-pow-succ k in
    let half = pow_pos k in
    omega (arith, shifted, high, twice, half)

past_access : (width offset i : ℕ) → offset + width ≤ i → (access_bytes offset width / 2 ^ i) % 2 ≡ 0
past_access width offset i le =
    let j : ℕ = i - offset in
    let x : ℕ = 2 ^ width - 1 in
    let at : offset + j ≡ i = omega (arith, le) in
    let shifted : access_bytes offset width / 2 ^ i ≡ x / 2 ^ j =
    ap (λ (n : ℕ). access_bytes offset width / 2 ^ n) (sym at) ∙ sym (shr-shr (access_bytes offset width) offset j) ∙ ap (λ (n : ℕ). n / 2 ^ j) (shl-shr x offset) in
    let some : 0 < 2 ^ width = pow_pos width in
    let most : 2 ^ width ≤ 2 ^ j = pow_mono (let h : width ≤ j = omega (arith, le) in h) in
    let none : x / 2 ^ j ≡ 0 = div-eq_of_lt (let h : x < 2 ^ j = omega (arith, some, most) in h) in
    omega (arith, shifted, none)

pub access_has : (width offset i : ℕ) → has_byte (access_bytes offset width) i ≡ (nat_le offset i && nat_lt i (offset + width))
access_has width offset i = elim (cases_lt i offset) [
  | inl below ↦ rw (below_access width offset i below, lt-leb offset i below) refl
  | inr from ↦ elim (cases_lt i (offset + width)) [
    | inl less ↦ rw (in_access width offset i (omega (arith, from)) less, le-leb offset i (omega (arith, from)), lt-ltb i (offset + width) less) refl
    | inr past ↦ rw (past_access width offset i (omega (arith, past)), le-ltb i (offset + width) (omega (arith, past))) (past_false (nat_le offset i))
  ]
]
  where
    past_false : (b : Bool) → false ≡ (b && false)
    past_false true = refl
    past_false false = refl
