-- The images of two rows of moments, of which the second follows the first.
use Rattle.std.proofs.Common.{◌≡◌, ℕ, zero, suc, ◌+◌, ◌<◌, ◌≤◌, true, false, nat_le, List, Option, Some, None, inl, inr, refl, arith}
use Rattle.std.proofs.lemmas.Bool.{cases_lt}
use Rattle.std.proofs.lemmas.Bool.Decides.{nat_tests}
use Rattle.store_trace.specs.Cut.{cut_count}
use Rattle.store_trace.specs.History.{at_moment}
use Rattle.store_trace.specs.declared.event.Event.{Event}
use Rattle.crash_image.specs.Totals.{IsImageSum, images_between, sum_of}

numbers_join : (es : List Event) (first middle end : ℕ) → first ≤ middle → middle ≤ end →
    images_between es first end ≡ images_between es first middle + images_between es middle end
numbers_join es first zero zero f m = refl
numbers_join es first (suc middle) zero f m = absurd (omega (arith, m))
numbers_join es first middle (suc end) f m = elim (cases_lt end middle) [
  | inl last ↦
      let same : middle ≡ suc end = omega (arith, m, last) in
      let none : nat_le (suc end) end ≡ false = grind (arith, nat_tests) in
      rw (same, none) (omega arith)
  | inr before ↦
      let here : nat_le first end ≡ true = grind (arith, nat_tests, f, before) in
      let there : nat_le middle end ≡ true = grind (arith, nat_tests, before) in
      rw (here, there) (omega (arith, numbers_join es first middle end f before))
]

few_join : (es : List Event) (first middle end : ℕ) → ((m : ℕ) → first ≤ m → m < middle → cut_count (at_moment es m) ≤ 65536) →
    ((m : ℕ) → middle ≤ m → m < end → cut_count (at_moment es m) ≤ 65536) → (m : ℕ) → first ≤ m → m < end → cut_count (at_moment es m) ≤ 65536
few_join es first middle end one other m f h = elim (cases_lt m middle) [
  | inl before ↦ one m f before
  | inr after ↦ other m after h
]

pub sums_join : (es : List Event) (first middle end : ℕ) (one other : Option ℕ) → first ≤ middle → middle ≤ end →
    IsImageSum es first middle one → IsImageSum es middle end other → IsImageSum es first end (sum_of one other)
sums_join es first middle end None other f m a b = (a.0, a.1, omega (arith, a.2, m), a.3)
sums_join es first middle end (Some total) None f m a b = (b.0, omega (arith, b.1, f), b.2, b.3)
sums_join es first middle end (Some total) (Some more) f m a b =
    (omega (arith, a.0, b.0, numbers_join es first middle end f m), few_join es first middle end a.1 b.1)
