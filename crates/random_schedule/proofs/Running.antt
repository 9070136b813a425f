-- The harts that run, hart after hart.
use Rattle.std.proofs.Common.{◌≡◌, ℕ, zero, suc, ◌+◌, ◌-◌, ◌<◌, Bool, true, false, List, [], ◌∷◌, ◌++◌, Some, length, slice_get, refl, ap, ◌∙◌, arith, append_assoc, append-nil, add-zero, zero-add}
use Rattle.std.proofs.lemmas.List.{length-append}
use Rattle.std.proofs.lemmas.List.Elements.{All-filter, filter-append, filter_passes}
use Rattle.std.proofs.lemmas.List.FromFn.{get_or-range_with_len, length-range_with_len}
use Rattle.std.proofs.lemmas.Option.{get_or_from_slice_get, slice_get_within}
use Rattle.std.specs.Prelude.{All, filter, not}
use Rattle.machine.specs.Represents.{IsRunning}
use Rattle.random_schedule.proofs.Status.{runs_on}
use Rattle.std.specs.List.{range_with_len}
use Rattle.hart.specs.declared.state.HartState.{HartState}
use Rattle.machine.specs.Stops.{is_stopped}
use Rattle.random_schedule.specs.Interleaves.{running}

-- those below a number
abbrev pub runs : List HartState → ℕ → Bool
runs harts h = not (is_stopped (slice_get harts h))

abbrev pub running_below : List HartState → ℕ → List ℕ
running_below harts n = filter (runs harts) (range_with_len 0 n)

range_parts : (a m n : ℕ) → range_with_len a (m + n) ≡ range_with_len a m ++ range_with_len (a + m) n
range_parts a zero n = rw (zero-add n, add-zero a) refl
range_parts a (suc m) n =
    let sum : suc m + n ≡ suc (m + n) = omega arith in
    let start : a + 1 + m ≡ a + suc m = omega arith in
    ap (λ (k : ℕ). range_with_len a k) sum
    ∙ ap (λ (r : List ℕ). a ∷ r) (range_parts (a + 1) m n)
    ∙ ap (λ (k : ℕ). a ∷ (range_with_len (a + 1) m ++ range_with_len k n)) start

below_more : (harts : List HartState) (h : ℕ) → running_below harts (h + 1) ≡ running_below harts h ++ filter (runs harts) (h ∷ [])
below_more harts h =
    ap (λ (r : List ℕ). filter (runs harts) r) (range_parts 0 h 1)
    ∙ ap (λ (k : ℕ). filter (runs harts) (range_with_len 0 h ++ k ∷ [])) (zero-add h)
    ∙ filter-append (runs harts) (range_with_len 0 h) (h ∷ [])

none_more : (harts : List HartState) (h : ℕ) → is_stopped (slice_get harts h) ≡ true → running_below harts (h + 1) ≡ running_below harts h
none_more harts h stopped =
    let none : filter (runs harts) (h ∷ []) ≡ [] = rw stopped refl in
    below_more harts h ∙ ap (λ (r : List ℕ). running_below harts h ++ r) none ∙ append-nil (running_below harts h)

one_more : (harts : List HartState) (h : ℕ) → is_stopped (slice_get harts h) ≡ false → running_below harts (h + 1) ≡ running_below harts h ++ h ∷ []
one_more harts h goes =
    let one : filter (runs harts) (h ∷ []) ≡ h ∷ [] = rw goes refl in
    below_more harts h ∙ ap (λ (r : List ℕ). running_below harts h ++ r) one

pub passed : (harts : List HartState) (h left place : ℕ) → is_stopped (slice_get harts h) ≡ true
    → length (running_below harts h) + left ≡ place → length (running_below harts (h + 1)) + left ≡ place
passed harts h left place stopped was = rw (none_more harts h stopped) was

pub kept_on : (harts : List HartState) (h left place : ℕ) → is_stopped (slice_get harts h) ≡ false
    → length (running_below harts h) + left ≡ place → 0 < left → length (running_below harts (h + 1)) + (left - 1) ≡ place
kept_on harts h left place goes was more =
    let longer = length-append (running_below harts h) (h ∷ []) in
    rw (one_more harts h goes) (omega arith)

at_end : (xs more : List ℕ) (x : ℕ) → slice_get (xs ++ x ∷ more) (length xs) ≡ Some x
at_end [] more x = refl
at_end (y ∷ xs) more x = at_end xs more x

pub found_at : (harts : List HartState) (h left place : ℕ) → h < length harts → is_stopped (slice_get harts h) ≡ false
    → length (running_below harts h) + left ≡ place → left ≡ 0 → slice_get (running harts) place ≡ Some h
found_at harts h left place inside goes was none =
    let rest : ℕ = length harts - (h + 1) in
    let sum : length harts ≡ h + 1 + rest = omega arith in
    let more : List ℕ = filter (runs harts) (range_with_len (0 + (h + 1)) rest) in
    let parts : running harts ≡ running_below harts h ++ h ∷ more =
    ap (λ (n : ℕ). running_below harts n) sum
    ∙ ap (λ (r : List ℕ). filter (runs harts) r) (range_parts 0 (h + 1) rest)
    ∙ filter-append (runs harts) (range_with_len 0 (h + 1)) (range_with_len (0 + (h + 1)) rest)
    ∙ ap (λ (r : List ℕ). r ++ more) (one_more harts h goes)
    ∙ append_assoc (running_below harts h) (h ∷ []) more in
    let at : place ≡ length (running_below harts h) = omega arith in
    rw (parts, at) (at_end (running_below harts h) more h)

not_true : (b : Bool) → not b ≡ true → b ≡ false
not_true true e = cc
not_true false e = refl

-- what is among those that run runs
at_place : (P : ℕ → Type 0) (xs : List ℕ) (i x : ℕ) → All P xs → slice_get xs i ≡ Some x → P x
at_place P xs i x all got =
    rw (get_or_from_slice_get xs i x x got) at (all i x (slice_get_within xs i x got))

pub drawn_runs : (harts : List HartState) (i h : ℕ) → slice_get (running harts) i ≡ Some h → IsRunning (slice_get harts h)
drawn_runs harts i h drawn =
    let n : ℕ = length harts in
    let goes : runs harts h ≡ true = at_place (λ (k : ℕ). runs harts k ≡ true) (running harts) i h (filter_passes (runs harts) (range_with_len 0 n)) drawn in
    let all : All (λ (k : ℕ). k < n) (range_with_len 0 n) = λ k d inside.
    let count = length-range_with_len 0 n in
    let less : k < n = omega arith in
    rw (get_or-range_with_len 0 n k d less) (omega arith) in
    let inside : h < n = at_place (λ (k : ℕ). k < n) (running harts) i h (All-filter (runs harts) (λ (k : ℕ). k < n) (range_with_len 0 n) all) drawn in
    runs_on harts h inside (not_true (is_stopped (slice_get harts h)) goes)
