-- What one more register adds to the text of a hart's line.
use Rattle.std.proofs.Common.{◌≡◌, ◌∙◌, ℕ, zero, suc, ◌+◌, ◌-◌, ◌≤◌, List, [], ◌++◌, ap, sym, append_assoc, arith, rules}
use Rattle.std.specs.List.{flat_map, range_with_len}
use Rattle.hart.specs.Registers.{register}
use Rattle.hart.specs.HartLines.{register_text}

-- the text of the registers from x1 up to one
abbrev pub registers_below : List ℕ → ℕ → List ℕ
registers_below registers number = flat_map (λ n. register_text n (register registers n)) (range_with_len 1 (number - 1))

append_none : (xs : List ℕ) → xs ++ [] ≡ xs
append_none xs = search rules

range_more : (f : ℕ → List ℕ) (a n j : ℕ) → a + n ≡ j → flat_map f (range_with_len a (suc n)) ≡ flat_map f (range_with_len a n) ++ f j
range_more f a zero j e = append_none (f a) ∙ ap f (omega arith)
range_more f a (suc n) j e =
    ap (λ (l : List ℕ). f a ++ l) (range_more f (a + 1) n j (omega arith)) ∙ sym (append_assoc (f a) (flat_map f (range_with_len (a + 1) n)) (f j))

pub registers_more : (registers : List ℕ) (number : ℕ) → 1 ≤ number
    → registers_below registers (number + 1) ≡ registers_below registers number ++ register_text number (register registers number)
registers_more registers number h =
    let f : ℕ → List ℕ = λ n. register_text n (register registers n) in
    let e : number + 1 - 1 ≡ suc (number - 1) = omega arith in
    ap (λ (n : ℕ). flat_map f (range_with_len 1 n)) e ∙ range_more f 1 (number - 1) number (omega arith)
