-- Numbers of eight bytes: what is written is read, and what is read of bytes is below 2 ^ 64.
use Rattle.std.proofs.Common.{◌≡◌, ℕ, suc, ◌+◌, ◌*◌, ◌^◌, ◌<◌, List, [], ◌∷◌, ◌++◌, slice_index, ◌∙◌, arith}
use Rattle.std.specs.Int.{byte_at, bytes_low_first, from_le_bytes, w64}
use Rattle.std.proofs.lemmas.Nat.{from_le_bytes-to_le_bytes_8}
use Rattle.word_bits.specs.Bytes.{loaded}

eight : (a b c d e f g h : ℕ) (rest : List ℕ) →
    loaded (a ∷ b ∷ c ∷ d ∷ e ∷ f ∷ g ∷ h ∷ rest) 0 8 ≡ from_le_bytes w64 (a ∷ b ∷ c ∷ d ∷ e ∷ f ∷ g ∷ h ∷ [])
eight a b c d e f g h rest = omega arith

pub number_read : (n : ℕ) (rest : List ℕ) → n < 2 ^ 64 → loaded (bytes_low_first 0 8 n ++ rest) 0 8 ≡ n
number_read n rest less =
    eight (byte_at 0 n) (byte_at 1 n) (byte_at 2 n) (byte_at 3 n) (byte_at 4 n) (byte_at 5 n) (byte_at 6 n) (byte_at 7 n) rest
    ∙ from_le_bytes-to_le_bytes_8 n less

below_eight : (a b c d e f g h : ℕ) → a < 256 → b < 256 → c < 256 → d < 256 → e < 256 → f < 256 → g < 256 → h < 256 →
    a + 256 * (b + 256 * (c + 256 * (d + 256 * (e + 256 * (f + 256 * (g + 256 * (h + 256 * 0))))))) < 2 ^ 64
below_eight a b c d e f g h a1 b1 c1 d1 e1 f1 g1 h1 = omega arith

pub loaded_below : (bytes : List ℕ) (at : ℕ) → ((k : ℕ) → slice_index bytes k < 256) → loaded bytes at 8 < 2 ^ 64
loaded_below bytes at h =
    below_eight (slice_index bytes at) (slice_index bytes (suc at)) (slice_index bytes (suc (suc at))) (slice_index bytes (suc (suc (suc at))))
    (slice_index bytes (suc (suc (suc (suc at))))) (slice_index bytes (suc (suc (suc (suc (suc at)))))) (slice_index bytes (suc (suc (suc (suc (suc (suc at)))))))
    (slice_index bytes (suc (suc (suc (suc (suc (suc (suc at))))))))
    (h at) (h (suc at)) (h (suc (suc at))) (h (suc (suc (suc at)))) (h (suc (suc (suc (suc at))))) (h (suc (suc (suc (suc (suc at))))))
    (h (suc (suc (suc (suc (suc (suc at))))))) (h (suc (suc (suc (suc (suc (suc (suc at))))))))
