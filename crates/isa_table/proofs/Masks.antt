-- The bits of a word under each mask of the table, as its fields.
use Rattle.std.proofs.Common.{◌≡◌, ℕ, ◌+◌, ◌-◌, ◌*◌, ◌/◌, ◌%◌, ◌^◌, ◌<◌, bit_and, sym, ◌∙◌, ap, arith, lit<}
use Rattle.std.proofs.lemmas.Nat.{and_block, and_mask, pow_pos, div-add-mod'}
use Rattle.std.proofs.Math.Nat.{mod-lt}
use Rattle.word_bits.specs.Numbers.{field}

-- a run of n ones from bit k on, above a mask b of k bits
masked_run : (n k b w : ℕ) → b < 2 ^ k
    → bit_and w ((2 ^ n - 1) * 2 ^ k + b) ≡ field w k n * 2 ^ k + bit_and (w % 2 ^ k) b
masked_run n k b w h = let m : ℕ = 2 ^ n - 1 in
    ap (λ x. bit_and x (m * 2 ^ k + b)) (sym (div-add-mod' w (2 ^ k)))
    ∙ and_block k (w / 2 ^ k) m (w % 2 ^ k) b (mod-lt w (pow_pos k)) h
    ∙ ap (λ x. x * 2 ^ k + bit_and (w % 2 ^ k) b) (and_mask (w / 2 ^ k) n)

-- bits 6 to 0
pub masked_7f : (w : ℕ) → bit_and w 0x7f ≡ field w 0 7
masked_7f w = omega (arith, and_mask w 7)

-- with bits 14 to 12
pub masked_707f : (w : ℕ) → bit_and w 0x707f ≡ field w 12 3 * 2 ^ 12 + field w 0 7
masked_707f w = omega (arith, masked_run 3 12 0x7f w (lit< tt), and_mask (w % 2 ^ 12) 7)

-- with bits 31 to 25, 31 to 26, and 31 to 27
pub masked_fe00707f : (w : ℕ) → bit_and w 0xfe00707f ≡ field w 25 7 * 2 ^ 25 + field w 12 3 * 2 ^ 12 + field w 0 7
masked_fe00707f w = omega (arith, masked_run 7 25 0x707f w (lit< tt), masked_707f (w % 2 ^ 25))

pub masked_fc00707f : (w : ℕ) → bit_and w 0xfc00707f ≡ field w 26 6 * 2 ^ 26 + field w 12 3 * 2 ^ 12 + field w 0 7
masked_fc00707f w = omega (arith, masked_run 6 26 0x707f w (lit< tt), masked_707f (w % 2 ^ 26))

pub masked_f800707f : (w : ℕ) → bit_and w 0xf800707f ≡ field w 27 5 * 2 ^ 27 + field w 12 3 * 2 ^ 12 + field w 0 7
masked_f800707f w = omega (arith, masked_run 5 27 0x707f w (lit< tt), masked_707f (w % 2 ^ 27))

-- with bits 31 to 27 and 24 to 20
masked_01f0707f : (w : ℕ) → bit_and w 0x01f0707f ≡ field w 20 5 * 2 ^ 20 + field w 12 3 * 2 ^ 12 + field w 0 7
masked_01f0707f w = omega (arith, masked_run 5 20 0x707f w (lit< tt), masked_707f (w % 2 ^ 20))

pub masked_f9f0707f : (w : ℕ)
    → bit_and w 0xf9f0707f ≡ field w 27 5 * 2 ^ 27 + field w 20 5 * 2 ^ 20 + field w 12 3 * 2 ^ 12 + field w 0 7
masked_f9f0707f w = omega (arith, masked_run 5 27 0x01f0707f w (lit< tt), masked_01f0707f (w % 2 ^ 27))

-- all but bits 19 to 15
pub masked_fff07fff : (w : ℕ) → bit_and w 0xfff07fff ≡ field w 20 12 * 2 ^ 20 + field w 0 15
masked_fff07fff w = omega (arith, masked_run 12 20 0x7fff w (lit< tt), and_mask (w % 2 ^ 20) 15)

pub masked_ffffffff : (w : ℕ) → w < 2 ^ 32 → bit_and w 0xffffffff ≡ w
masked_ffffffff w h = omega (arith, and_mask w 32)
