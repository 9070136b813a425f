-- The value of a number with a sign, from that of its higher bits.
use Rattle.std.proofs.Common.{◌≡◌, ◌≤◌, ◌-◌, subst, zero, suc, [], ◌∷◌, length, get_or, drop, nat_lt, ℕ, ℤ, pos, ◌*ℤ◌, ◌+ℤ◌, List, Option, Some, None, option_and_then, option_map, ap, ◌∙◌, arith, Bool, true, false, if◌then◌else◌}
use Rattle.elf_file.specs.Numbers.{signed_64, with_signed_64, signed_in}

abbrev pub Found : Type 0
Found = ℤ × List ℕ

abbrev pub found : ℤ → List ℕ → Option Found
found z rest = Some (z, rest)

fitted : (b : Bool) (z high : ℤ) (r rest : List ℕ) → ◌≡◌ {A = Option Found} (found high rest) (option_map (λ y. (y, r)) (if b then Some z else None)) → ◌≡◌ {A = Option Found} (found high rest) (found z r)
fitted true z high r rest is = is
fitted false z high r rest is = absurd cc

pub again : (x : Option (ℤ × List ℕ)) (high value : ℤ) (rest : List ℕ) (low : ℕ)
    → ◌≡◌ {A = Option Found} (found high rest) (option_and_then with_signed_64 x) → Some value ≡ signed_64 (high *ℤ pos 128 +ℤ pos low)
    → ◌≡◌ {A = Option Found} (found value rest) (option_and_then with_signed_64 (option_and_then (λ h. Some (h.0 *ℤ pos 128 +ℤ pos low, h.1)) x))
again None high value rest low is new = absurd cc
again (Some h) high value rest low is new =
    ap (option_map (λ z. (z, rest))) new
    ∙ ap (option_and_then (λ p. option_map (λ z. (z, p.1)) (signed_64 (p.0 *ℤ pos 128 +ℤ pos low)))) (fitted _ h.0 high h.1 rest is)

not_below : (n m : ℕ) → m ≤ n → nat_lt n m ≡ false
not_below n m le = grind arith

pub deeper : (most : ℕ) (bytes inner : List ℕ) (high value : ℤ) (rest : List ℕ)
    → 1 ≤ most → 1 ≤ length bytes → 128 ≤ get_or bytes 0 0 → inner ≡ drop 1 bytes
    → ◌≡◌ {A = Option Found} (found high rest) (option_and_then with_signed_64 (signed_in (most - 1) inner))
    → Some value ≡ signed_64 (high *ℤ pos 128 +ℤ pos (get_or bytes 0 0 - 128))
    → ◌≡◌ {A = Option Found} (found value rest) (option_and_then with_signed_64 (signed_in most bytes))
deeper zero bytes inner high value rest some long large within is new = absurd (omega arith)
deeper (suc n) [] inner high value rest some long large within is new = absurd (omega arith)
deeper (suc n) (b ∷ bs) inner high value rest some long large within is new =
    let e : suc n - 1 ≡ n = omega arith in
    let below : ◌≡◌ {A = Option Found} (found high rest) (option_and_then with_signed_64 (signed_in n bs)) = subst (λ k. ◌≡◌ {A = Option Found} (found high rest) (option_and_then with_signed_64 (signed_in k bs))) e (subst (λ i. ◌≡◌ {A = Option Found} (found high rest) (option_and_then with_signed_64 (signed_in (suc n - 1) i))) within is) in
    rw (not_below b 64 (omega arith), not_below b 128 (omega arith)) (again (signed_in n bs) high value rest (b - 128) below new)
