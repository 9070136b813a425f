-- A list's bytes after a store, one by one, and a load of a memory that holds a list's bytes.
use Rattle.std.proofs.Common.{◌≡◌, ℕ, zero, suc, ◌+◌, ◌-◌, ◌/◌, ◌%◌, ◌^◌, ◌<◌, ◌≤◌, List, [], ◌∷◌, ◌++◌, length, take, drop, slice_index, slice_get, Some, None, refl, ap, ◌∙◌, arith}
use Rattle.std.proofs.lemmas.List.{length-append, length-take-le, length-drop}
use Rattle.std.specs.Int.{byte_at, bytes_low_first}
use Rattle.word_bits.specs.Bytes.{loaded, stored}
use Rattle.line_memory.specs.Memory.{Memory, loaded_from}

get-append_left : (xs ys : List ℕ) (i : ℕ) → i < length xs → slice_get (xs ++ ys) i ≡ slice_get xs i
get-append_left [] ys i h = absurd (omega arith)
get-append_left (x ∷ xs) ys zero h = refl
get-append_left (x ∷ xs) ys (suc i) h = get-append_left xs ys i (omega arith)

get-append_right : (xs ys : List ℕ) (i : ℕ) → slice_get (xs ++ ys) (length xs + i) ≡ slice_get ys i
get-append_right [] ys i = let e : 0 + i ≡ i = omega arith in rw e refl
get-append_right (x ∷ xs) ys i =
    let e : suc (length xs) + i ≡ suc (length xs + i) = omega arith in
    rw e (get-append_right xs ys i)

get-take : (n : ℕ) (xs : List ℕ) (i : ℕ) → i < n → slice_get (take n xs) i ≡ slice_get xs i
get-take zero xs i h = absurd (omega arith)
get-take (suc n) [] i h = refl
get-take (suc n) (x ∷ xs) zero h = refl
get-take (suc n) (x ∷ xs) (suc i) h = get-take n xs i (omega arith)

get-drop : (n : ℕ) (xs : List ℕ) (i : ℕ) → slice_get (drop n xs) i ≡ slice_get xs (n + i)
get-drop zero xs i = let e : 0 + i ≡ i = omega arith in rw e refl
get-drop (suc n) [] i = refl
get-drop (suc n) (x ∷ xs) i =
    let e : suc n + i ≡ suc (n + i) = omega arith in
    rw e (get-drop n xs i)

byte_at_is : (i v : ℕ) → byte_at i v ≡ v / 256 ^ i % 256
byte_at_is zero v = omega arith
byte_at_is (suc i) v = refl

get-bytes : (i n v j : ℕ) → j < n → slice_get (bytes_low_first i n v) j ≡ Some (v / 256 ^ (i + j) % 256)
get-bytes i zero v j h = absurd (omega arith)
get-bytes i (suc n) v zero h = let e : i + 0 ≡ i = omega arith in rw (e, byte_at_is i v) refl
get-bytes i (suc n) v (suc j) h =
    let e : i + suc j ≡ suc i + j = omega arith in
    rw e (get-bytes (suc i) n v j (omega arith))

length-bytes : (i n v : ℕ) → length (bytes_low_first i n v) ≡ n
length-bytes i zero v = refl
length-bytes i (suc n) v = ap suc (length-bytes (suc i) n v)

pub length-stored : (bytes : List ℕ) (at n v : ℕ) → at + n ≤ length bytes → length (stored bytes at n v) ≡ length bytes
length-stored bytes at n v h =
    let new = bytes_low_first 0 n v in
    let width : length new ≡ n = length-bytes 0 n v in
    let front : length (take at bytes) ≡ at = length-take-le at bytes (omega arith) in
    let all : length (take at bytes ++ (new ++ drop (at + length new) bytes)) ≡ length (take at bytes) + length (new ++ drop (at + length new) bytes) = length-append (take at bytes) (new ++ drop (at + length new) bytes) in
    let back : length (new ++ drop (at + length new) bytes) ≡ length new + length (drop (at + length new) bytes) = length-append new (drop (at + length new) bytes) in
    let rest : length (drop (at + length new) bytes) ≡ length bytes - (at + length new) = length-drop (at + length new) bytes in
    omega arith

-- a byte before those that a store writes, one of them, and one after them
pub stored_before : (bytes : List ℕ) (at n v k : ℕ) → at + n ≤ length bytes → k < at → slice_get (stored bytes at n v) k ≡ slice_get bytes k
stored_before bytes at n v k h low =
    let new = bytes_low_first 0 n v in
    let front : length (take at bytes) ≡ at = length-take-le at bytes (omega arith) in
    get-append_left (take at bytes) (new ++ drop (at + length new) bytes) k (omega arith) ∙ get-take at bytes k low

pub stored_within : (bytes : List ℕ) (at n v k : ℕ) → at + n ≤ length bytes → k < n → slice_get (stored bytes at n v) (at + k) ≡ Some (v / 256 ^ k % 256)
stored_within bytes at n v k h low =
    let new = bytes_low_first 0 n v in
    let width : length new ≡ n = length-bytes 0 n v in
    let front : length (take at bytes) ≡ at = length-take-le at bytes (omega arith) in
    let first = get-append_right (take at bytes) (new ++ drop (at + length new) bytes) k in
    let place : 0 + k ≡ k = omega arith in
    let byte = rw place at (get-bytes 0 n v k low) in
    (rw front at first) ∙ get-append_left new (drop (at + length new) bytes) k (omega arith) ∙ byte

pub stored_after : (bytes : List ℕ) (at n v k : ℕ) → at + n ≤ length bytes → slice_get (stored bytes at n v) (at + n + k) ≡ slice_get bytes (at + n + k)
stored_after bytes at n v k h =
    let new = bytes_low_first 0 n v in
    let width : length new ≡ n = length-bytes 0 n v in
    let front : length (take at bytes) ≡ at = length-take-le at bytes (omega arith) in
    let begin : at + n + k ≡ length (take at bytes) + (length new + k) = omega arith in
    let end : at + length new + k ≡ length (take at bytes) + (length new + k) = omega arith in
    rw begin (get-append_right (take at bytes) (new ++ drop (at + length new) bytes) (length new + k)
    ∙ get-append_right new (drop (at + length new) bytes) k
    ∙ get-drop (at + length new) bytes k
    ∙ ap (λ (i : ℕ). slice_get bytes i) end)

-- a memory that holds a list's bytes from an address on
pub loaded_shown : (memory : Memory) (bytes : List ℕ) (address at n : ℕ)
    → ((k : ℕ) → k < n → memory (address + k) ≡ Some (slice_index bytes (at + k)))
    → loaded_from memory address n ≡ Some (loaded bytes at n)
unfolding loaded_from
loaded_shown memory bytes address at zero h = refl
loaded_shown memory bytes address at (suc n) h =
    let here : address + 0 ≡ address = omega arith in
    let there : at + 0 ≡ at = omega arith in
    let first = rw (here, there) at (h 0 (omega arith)) in
    let rest = loaded_shown memory bytes (suc address) (suc at) n (λ k l.
    let e : suc address + k ≡ address + (k + 1) = omega arith in
    let f : suc at + k ≡ at + (k + 1) = omega arith in
    rw (e, f) (h (k + 1) (omega arith))) in
    rw (first, rest) refl

-- no first byte, no number
pub loaded_none : (memory : Memory) (address n : ℕ) → 0 < n → memory address ≡ None → loaded_from memory address n ≡ None
unfolding loaded_from
loaded_none memory address zero h none = absurd (omega arith)
loaded_none memory address (suc n) h none = rw none refl
