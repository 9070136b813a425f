-- Bytes in lines of 64.
use Rattle.std.proofs.Common.{◌≡◌, ℕ, zero, suc, ◌+◌, ◌*◌, ◌/◌, ◌%◌, ◌<◌, ◌≤◌, List, length, take, drop, refl, ap, ◌∙◌, arith}
use Rattle.std.proofs.lemmas.List.{length-take-le, length-drop, take_all}
use Rattle.std.proofs.Math.Seq.{take-add}
use Rattle.std.specs.List.{concat}
use Rattle.std.specs.Simd.{first_chunks}
use Rattle.line_memory.specs.Lines.{IsMedium, line_at}

pub chunks_count : (k : ℕ) (bytes : List ℕ) → length (first_chunks 64 k bytes) ≡ k
chunks_count zero bytes = refl
chunks_count (suc k) bytes = ap (λ (n : ℕ). suc n) (chunks_count k (drop 64 bytes))

pub chunks_joined : (k : ℕ) (bytes : List ℕ) → concat (first_chunks 64 k bytes) ≡ take (k * 64) bytes
chunks_joined zero bytes = refl
chunks_joined (suc k) bytes =
    let e : suc k * 64 ≡ 64 + k * 64 = omega arith in
    rw (e, take-add 64 (k * 64) bytes, chunks_joined k (drop 64 bytes)) refl

pub chunks_whole : (k : ℕ) (bytes : List ℕ) → k * 64 ≤ length bytes → (line : ℕ) → line < k → length (line_at (first_chunks 64 k bytes) line) ≡ 64
chunks_whole zero bytes long line h = absurd (omega arith)
chunks_whole (suc k) bytes long zero h = omega (arith, length-take-le 64 bytes (omega arith))
chunks_whole (suc k) bytes long (suc line) h = chunks_whole k (drop 64 bytes) (omega (arith, length-drop 64 bytes)) line (omega arith)

-- the whole lines of bytes
pub chunks_all : (bytes : List ℕ) → length bytes % 64 ≡ 0 → concat (first_chunks 64 (length bytes / 64) bytes) ≡ bytes
chunks_all bytes whole = chunks_joined (length bytes / 64) bytes ∙ take_all (length bytes / 64 * 64) bytes (omega arith)

pub chunks_medium : (bytes : List ℕ) → 512 ≤ length bytes / 64 → length bytes / 64 ≤ 16384 → IsMedium (first_chunks 64 (length bytes / 64) bytes)
chunks_medium bytes least most =
    let count = chunks_count (length bytes / 64) bytes in
    record {
      least = omega arith;
      most = omega arith;
      each = record { whole = λ line h. chunks_whole (length bytes / 64) bytes (omega arith) line (omega arith) };
    }
