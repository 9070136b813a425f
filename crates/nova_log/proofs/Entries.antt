-- The name of an entry, from the bytes of its two lines.
use Rattle.std.proofs.Common.{◌≡◌, ℕ, ◌+◌, ◌<◌, ◌≤◌, List, [], ◌++◌, length, take, drop, replicate, slice_index, refl, sym, ap, ◌∙◌, arith}
use Rattle.std.proofs.lemmas.List.{append-nil, length-append, take-append-le, drop-append-le, length-drop, take_all}
use Rattle.std.proofs.Math.ListN.{drop_of_length-le}
use Rattle.word_bits.specs.Bytes.{replaced}
use Rattle.nova_log.specs.Entries.{entry_in}

-- a name of at most 40 bytes lies in the first line
short_name : (first more : List ℕ) (n : ℕ) → length first ≡ 64 → n ≤ 40 → take n (drop 24 (first ++ more)) ≡ take n (drop 24 first)
short_name first more n whole short =
    let rest : length (drop 24 first) ≡ 40 = omega (arith, length-drop 24 first) in
    let fits : n ≤ length (drop 24 first) = omega arith in
    let begin : 24 ≤ length first = omega arith in
    ap (λ (bytes : List ℕ). take n bytes) (drop-append-le 24 first more begin) ∙ take-append-le n (drop 24 first) more fits

pub short_entry : (first more other : List ℕ) → length first ≡ 64 → slice_index first 1 ≤ 40 → entry_in first more ≡ entry_in first other
unfolding entry_in
short_entry first more other whole short =
    let same : take (slice_index first 1) (drop 24 (first ++ more)) ≡ take (slice_index first 1) (drop 24 (first ++ other)) =
    short_name first more (slice_index first 1) whole short ∙ sym (short_name first other (slice_index first 1) whole short) in
    rw same refl

-- two lines in a row
pub both_lines : (first second : List ℕ) → length first ≡ 64 → length second ≡ 64 →
    replaced (replaced (replicate 128 0) 0 first) 64 second ≡ first ++ second
both_lines first second a b =
    let zeros = replicate {A = ℕ} 64 0 in
    let size : 0 + length first ≡ 64 = omega arith in
    let inner : replaced (replicate 128 0) 0 first ≡ first ++ zeros = rw size refl in
    let size_all : length (first ++ zeros) ≡ 128 = omega (arith, length-append first zeros) in
    let front : take 64 (first ++ zeros) ≡ first = take-append-le 64 first zeros (omega arith) ∙ take_all 64 first (omega arith) in
    let back : drop (64 + length second) (first ++ zeros) ≡ [] = drop_of_length-le (first ++ zeros) {i = 64 + length second} (omega arith) in
    ap (λ (bytes : List ℕ). replaced bytes 64 second) inner
    ∙ ap (λ (bytes : List ℕ). bytes ++ (second ++ drop (64 + length second) (first ++ zeros))) front
    ∙ ap (λ (bytes : List ℕ). first ++ (second ++ bytes)) back
    ∙ ap (λ (bytes : List ℕ). first ++ bytes) (append-nil second)
