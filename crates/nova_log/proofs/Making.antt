-- What the code makes is what the definitions say: lists of parts, and the bytes of an entry.
use Rattle.std.proofs.Common.{◌≡◌, ℕ, zero, suc, ◌+◌, ◌-◌, List, [], ◌∷◌, ◌++◌, length, map, take, drop, replicate, slice_set, refl, sym, ap, ◌∙◌, append_assoc, arith}
use Rattle.std.proofs.lemmas.List.{append-nil, drop-drop, drop-replicate}
use Rattle.std.proofs.lemmas.List.Concat.{flat_map-append}
use Rattle.std.proofs.lemmas.List.FromFn.{map-range_with_len_more}
use Rattle.std.specs.List.{flat_map, range_with_len}
use Rattle.nova_log.specs.Numbers.{bytes_of}
use Rattle.word_bits.specs.Bytes.{replaced, stored}

-- one more item after those of a range
pub pushed : {X : Type 0} (f : ℕ → X) (a n j : ℕ) (start old new : List X) → a + n ≡ j → old ≡ start ++ map f (range_with_len a n) → new ≡ old ++ f j ∷ [] →
    new ≡ start ++ map f (range_with_len a (n + 1))
pushed {X} f a n j start old new e h k =
    k ∙ ap (λ (items : List X). items ++ f j ∷ []) h ∙ append_assoc start (map f (range_with_len a n)) (f j ∷ [])
    ∙ ap (λ (items : List X). start ++ items) (sym (map-range_with_len_more f a n j e))

pub range_more : (a n : ℕ) → range_with_len a (n + 1) ≡ range_with_len a n ++ (a + n) ∷ []
range_more a zero = let e : a + 0 ≡ a = omega arith in rw e refl
range_more a (suc n) =
    let one : suc n + 1 ≡ suc (n + 1) = omega arith in
    let sum : a + suc n ≡ a + 1 + n = omega arith in
    rw (one, sum) (ap (λ (rest : List ℕ). a ∷ rest) (range_more (a + 1) n))

-- one more list of items
pub joined : {X : Type 0} (f : ℕ → List X) (n : ℕ) (start old new : List X) → old ≡ start ++ flat_map f (range_with_len 0 n) → new ≡ old ++ f n →
    new ≡ start ++ flat_map f (range_with_len 0 (n + 1))
joined {X} f n start old new h k =
    let here : 0 + n ≡ n = omega arith in
    let more : flat_map f (range_with_len 0 (n + 1)) ≡ flat_map f (range_with_len 0 n) ++ f n =
    rw (range_more 0 n, here) (flat_map-append f (range_with_len 0 n) (n ∷ []) ∙ ap (λ (items : List X). flat_map f (range_with_len 0 n) ++ items) (append-nil (f n))) in
    k ∙ ap (λ (items : List X). items ++ f n) h ∙ append_assoc start (flat_map f (range_with_len 0 n)) (f n)
    ∙ ap (λ (items : List X). start ++ items) (sym more)

-- the bytes of an entry, from the stores that write them
pub entry_written : (kind size operation value : ℕ) (name : List ℕ) →
    replaced (stored (stored (slice_set (slice_set (replicate 128 0) 0 kind) 1 size) 8 8 operation) 16 8 value) 24 name
    ≡ (kind ∷ size ∷ replicate 6 0) ++ bytes_of (operation ∷ value ∷ []) ++ (name ++ replicate (104 - length name) 0)
entry_written kind size operation value name =
    let before = stored (stored (slice_set (slice_set (replicate 128 0) 0 kind) 1 size) 8 8 operation) 16 8 value in
    let behind : drop (24 + length name) before ≡ replicate (104 - length name) 0 =
    sym (drop-drop (length name) 24 before) ∙ drop-replicate (length name) 104 0 in
    ap (λ (rest : List ℕ). take 24 before ++ (name ++ rest)) behind
