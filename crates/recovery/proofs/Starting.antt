-- The lines that a region starts with have its bytes.
use Rattle.std.proofs.Common.{◌≡◌, ℕ, zero, suc, ◌+◌, ◌-◌, ◌*◌, ◌/◌, ◌%◌, ◌<◌, List, [], ◌∷◌, ◌++◌, Option, Some, length, slice_get, slice_set, refl, sym, ap, ◌∙◌, inl, inr, arith}
use Rattle.std.proofs.lemmas.Bool.{cases_lt}
use Rattle.std.proofs.lemmas.List.{length-append}
use Rattle.std.specs.List.{concat}
use Rattle.line_memory.specs.Lines.{AreLines, IsMedium, line_bytes}
use Rattle.line_memory.specs.Memory.{Memory}
use Rattle.line_memory.specs.Regions.{padded}
use Rattle.recovery.specs.Held.{IsFresh, IsOver, memory_over}
use Rattle.recovery.specs.Regions.{IsRegion, RegionView}

get_left : (xs ys : List ℕ) (i : ℕ) → i < length xs → slice_get (xs ++ ys) i ≡ slice_get xs i
get_left [] ys i h = absurd (omega arith)
get_left (x ∷ xs) ys zero h = refl
get_left (x ∷ xs) ys (suc i) h = get_left xs ys i (omega arith)

get_right : (xs ys : List ℕ) (i : ℕ) → slice_get (xs ++ ys) (length xs + i) ≡ slice_get ys i
get_right [] ys i = let e : 0 + i ≡ i = omega arith in rw e refl
get_right (x ∷ xs) ys i =
    let e : suc (length xs) + i ≡ suc (length xs + i) = omega arith in
    rw e (get_right xs ys i)

-- the lines after the first
rest_whole : (first : List ℕ) (lines : List (List ℕ)) → AreLines (first ∷ lines) → AreLines lines
rest_whole first lines each = record { whole = λ line h. each.whole (suc line) (omega arith) }

pub length_joined : (lines : List (List ℕ)) → AreLines lines → length (concat lines) ≡ 64 * length lines
length_joined [] each = refl
length_joined (first ∷ lines) each =
    let long : length first ≡ 64 = each.whole zero (omega arith) in
    let rest = length_joined lines (rest_whole first lines each) in
    let all = length-append first (concat lines) in
    omega arith

-- the bytes of lines are those of all lines one after the other
pub joined_bytes : (lines : List (List ℕ)) → AreLines lines → (offset : ℕ) → line_bytes lines offset ≡ slice_get (concat lines) offset
unfolding line_bytes
joined_bytes [] each offset = refl
joined_bytes (first ∷ lines) each offset =
    let long : length first ≡ 64 = each.whole zero (omega arith) in
    elim (cases_lt offset 64) [
      | inl low ↦
          let line : offset / 64 ≡ 0 = omega arith in
          let place : offset % 64 ≡ offset = omega arith in
          rw (line, place) (sym (get_left first (concat lines) offset (omega arith)))
      | inr high ↦
          let line : offset / 64 ≡ suc ((offset - 64) / 64) = omega arith in
          let place : offset % 64 ≡ (offset - 64) % 64 = omega arith in
          let at : offset ≡ length first + (offset - 64) = omega arith in
          let rest = joined_bytes lines (rest_whole first lines each) (offset - 64) in
          let there = get_right first (concat lines) (offset - 64) in
          rw (line, place) (rest ∙ sym there ∙ ap (λ (i : ℕ). slice_get (first ++ concat lines) i) (sym at))
    ]

-- one more byte is read
set_here : (xs : List ℕ) (at v : ℕ) → at < length xs → slice_get (slice_set xs at v) at ≡ Some v
set_here [] at v h = absurd (omega arith)
set_here (x ∷ xs) zero v h = refl
set_here (x ∷ xs) (suc at) v h = set_here xs at v (omega arith)

set_elsewhere : (xs : List ℕ) (at v k : ℕ) → k < at → slice_get (slice_set xs at v) k ≡ slice_get xs k
set_elsewhere [] at v k h = refl
set_elsewhere (x ∷ xs) zero v k h = absurd (omega arith)
set_elsewhere (x ∷ xs) (suc at) v zero h = refl
set_elsewhere (x ∷ xs) (suc at) v (suc k) h = set_elsewhere xs at v k (omega arith)

pub read_more : (xs : List ℕ) (memory : Memory) (at v : ℕ) → at < length xs → ((k : ℕ) → k < at → slice_get xs k ≡ memory k) → memory at ≡ Some v
    → (k : ℕ) → k < at + 1 → slice_get (slice_set xs at v) k ≡ memory k
read_more xs memory at v there before found k below = elim (cases_lt k at) [
  | inl earlier ↦ set_elsewhere xs at v k earlier ∙ before k earlier
  | inr from ↦
      let here : k ≡ at = omega arith in
      rw (here, found) (set_here xs at v there)
]

-- a region that is made
pub lines_counted : (lines : List (List ℕ)) (bytes : List ℕ) (size : ℕ) → IsMedium lines → concat lines ≡ bytes → length bytes ≡ size
    → length lines ≡ size / 64
lines_counted lines bytes size medium joined long =
    let all = length_joined lines medium.each in
    let same = ap (λ (b : List ℕ). length b) joined in
    omega arith

pub region_starts : (region : RegionView) (bytes : List ℕ) (size : ℕ) → IsMedium region.start → concat region.start ≡ padded bytes size
    → length (padded bytes size) ≡ size → IsFresh region.copies (size / 64) → size % 64 ≡ 0 → IsRegion region bytes size
region_starts region bytes size medium joined long fresh whole = record {
  count = let n = fresh.count in omega arith;
  over = fresh.over region.start medium.each (lines_counted region.start (padded bytes size) size medium joined long);
  shown = λ offset. joined_bytes region.start medium.each offset ∙ ap (λ (b : List ℕ). slice_get b offset) joined;
}

-- a region that is set back
pub start_found : (copies : List (Option (List ℕ))) (lines : ℕ) (start : List (List ℕ)) → IsFresh copies lines
    → memory_over copies start ≡ line_bytes start
start_found copies lines start fresh = fresh.own start

pub over_start : (copies : List (Option (List ℕ))) (lines : ℕ) (start : List (List ℕ)) → IsFresh copies lines → AreLines start → length start ≡ lines
    → IsOver copies start
over_start copies lines start fresh each count = fresh.over start each count
