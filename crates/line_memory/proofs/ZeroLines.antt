-- Lines with lines of zeros behind them.
use Rattle.std.proofs.Common.{◌≡◌, ℕ, zero, suc, ◌+◌, ◌-◌, ◌*◌, ◌/◌, ◌%◌, ◌<◌, ◌≤◌, List, [], ◌∷◌, ◌++◌, length, replicate, refl, ap, ◌∙◌, inl, inr, arith}
use Rattle.std.proofs.lemmas.Bool.{cases_lt}
use Rattle.std.proofs.lemmas.List.{append_assoc, length-append, length-replicate, replicate-append-replicate, get_or-replicate}
use Rattle.std.proofs.lemmas.List.Folds.{concat-append}
use Rattle.std.specs.List.{concat}
use Rattle.line_memory.specs.Lines.{IsMedium, line_at, zero_lines}
use Rattle.line_memory.specs.Regions.{padded}
use Rattle.std.specs.Simd.{first_chunks}
use Rattle.line_memory.proofs.Chunks.{chunks_all, chunks_count, chunks_whole}

joined_zeros : (k : ℕ) → concat (zero_lines k) ≡ replicate (64 * k) 0
unfolding zero_lines
joined_zeros zero = refl
joined_zeros (suc k) =
    let next : 64 + 64 * k ≡ 64 * suc k = omega arith in
    ap (λ (l : List ℕ). replicate 64 0 ++ l) (joined_zeros k) ∙ replicate-append-replicate 64 (64 * k) 0 ∙ ap (λ (n : ℕ). replicate {A = ℕ} n 0) next

length_zeros : (k : ℕ) → length (zero_lines k) ≡ k
unfolding zero_lines
length_zeros k = length-replicate k (replicate {A = ℕ} 64 0)

zero_line : (k line : ℕ) → line < k → line_at (zero_lines k) line ≡ replicate 64 0
unfolding zero_lines
zero_line k line h = get_or-replicate k line (replicate {A = ℕ} 64 0) [] h

pub line_given : (given : List (List ℕ)) (k line : ℕ) → line < length given → line_at (given ++ zero_lines k) line ≡ line_at given line
line_given [] k line h = absurd (omega arith)
line_given (x ∷ xs) k zero h = refl
line_given (x ∷ xs) k (suc line) h = line_given xs k line (omega arith)

pub line_behind : (given : List (List ℕ)) (k line : ℕ) → length given ≤ line → line < length (given ++ zero_lines k) → line_at (given ++ zero_lines k) line ≡ replicate 64 0
line_behind [] k line h l = zero_line k line (omega (arith, length_zeros k))
line_behind (x ∷ xs) k zero h l = absurd (omega arith)
line_behind (x ∷ xs) k (suc line) h l = line_behind xs k line (omega arith) (omega arith)

pub length_given : (given : List (List ℕ)) (count : ℕ) → length given ≤ count → length (given ++ zero_lines (count - length given)) ≡ count
length_given given count few =
    omega (arith, length-append given (zero_lines (count - length given)), length_zeros (count - length given))

pub given_medium : (given : List (List ℕ)) (count : ℕ) → length given ≤ count → ((line : ℕ) → line < length given → length (line_at given line) ≡ 64) → 512 ≤ count → count ≤ 16384 →
    IsMedium (given ++ zero_lines (count - length given))
given_medium given count few whole least most =
    let all = length_given given count few in
    record {
      least = omega arith;
      most = omega arith;
      each = record {
        whole = λ line h. elim (cases_lt line (length given)) [
          | inl low ↦ rw (line_given given (count - length given) line low) (whole line low)
          | inr high ↦ rw (line_behind given (count - length given) line high h) refl
        ];
      };
    }

pub given_joined : (bytes : List ℕ) (given : List (List ℕ)) (size count : ℕ) → concat given ≡ padded bytes size → size ≡ 64 * length given →
    length bytes ≤ size → length given ≤ count → concat (given ++ zero_lines (count - length given)) ≡ padded bytes (64 * count)
unfolding padded
given_joined bytes given size count joined whole fits few =
    let rest : ℕ = count - length given in
    let more : size - length bytes + 64 * rest ≡ 64 * count - length bytes = omega arith in
    concat-append given (zero_lines rest) ∙ rw (joined, joined_zeros rest)
    (append_assoc bytes (replicate (size - length bytes) 0) (replicate (64 * rest) 0)
    ∙ ap (λ (l : List ℕ). bytes ++ l) (replicate-append-replicate (size - length bytes) (64 * rest) 0 ∙ ap (λ (n : ℕ). replicate {A = ℕ} n 0) more))

-- the lines of filled bytes
pub record AreGiven (bytes : List ℕ) (given : List (List ℕ)) (size : ℕ) : Type 0 where
  pub joined : concat given ≡ padded bytes size
  pub counted : size ≡ 64 * length given
  pub whole : (line : ℕ) → line < length given → length (line_at given line) ≡ 64

pub chunks_given : (bytes filled : List ℕ) (given : List (List ℕ)) (size : ℕ) → filled ≡ padded bytes size → length filled ≡ size → size % 64 ≡ 0 →
    given ≡ first_chunks 64 (length filled / 64) filled → AreGiven bytes given size
chunks_given bytes filled given size is long whole e =
    let count : length given ≡ length filled / 64 = ap (λ (l : List (List ℕ)). length l) e ∙ chunks_count (length filled / 64) filled in
    let even : length filled % 64 ≡ 0 = rw long whole in
    record {
      joined = ap (λ (l : List (List ℕ)). concat l) e ∙ chunks_all filled even ∙ is;
      counted = omega arith;
      whole = λ line h. rw e (chunks_whole (length filled / 64) filled (omega arith) line (omega arith));
    }
