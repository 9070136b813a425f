-- Seats in the order of their harts' numbers.
use Rattle.std.proofs.Common.{◌≡◌, ◌≢◌, ◌⊎◌, ℕ, zero, suc, ◌+◌, ◌<◌, ◌≤◌, List, [], ◌∷◌, Some, false, eqb, if◌then◌else◌, length, slice_get, slice_set, slice_index_or, refl, sym, ap, subst, ◌∙◌, inl, inr, arith}
use Rattle.std.proofs.lemmas.Bool.{cases_Bool, cases_eq, cases_lt, eq-eqb, eqb-true}
use Rattle.std.proofs.lemmas.List.{length-set}
use Rattle.std.proofs.lemmas.List.Edits.{length-swap, swap_is}
use Rattle.std.proofs.lemmas.List.Sorted.{IsPermutation-refl, IsPermutation-swap, IsPermutation-trans, sum_by-IsPermutation}
use Rattle.std.proofs.lemmas.List.Sums.{sum_by-cons}
use Rattle.std.proofs.lemmas.Option.{get_or_from_slice_get, slice_get_read, slice_get_within}
use Rattle.std.specs.List.{sum_by, swap}
use Rattle.std.specs.List.Sorted.{IsPermutation}
use Rattle.bus.specs.declared.finish_fault.FinishFault.TheVariants.{SeatMissing, SeatNumber}
use Rattle.bus.specs.Ending.{HasNoSeat, HasTooLarge, HasTwice, LacksSeat}
use Rattle.bus.specs.Numbering.{ArePlaced, ArePlacedUpTo, IsSeatOf, RefusesNumbers}
use Rattle.bus.specs.Seats.{SeatView}
use Rattle.bus.proofs.Places.{got_else, got_set, there_is}

pub is_seat_of : (seats : List SeatView) (at h : ℕ) (seat : SeatView) → at < length seats → seat ≡ slice_index_or seats at seat → seat.hart ≡ h
    → IsSeatOf seats at h
is_seat_of seats at h seat inside is number = record {
  seat = seat;
  there = slice_get_read seats (length seats) at seat refl inside is;
  number = number;
}

-- none of the first n seats is hart h's
abbrev pub IsNoneBelow : ℕ → List SeatView → ℕ → Type 0
IsNoneBelow n seats h = (at : ℕ) (seat : SeatView) → at < n → slice_get seats at ≡ Some seat → seat.hart ≢ h

pub none_below_zero : (seats : List SeatView) (h : ℕ) → IsNoneBelow 0 seats h
none_below_zero seats h = λ at seat less got same. absurd (omega (arith, less))

pub none_below_more : (n : ℕ) (seats : List SeatView) (h : ℕ) (seat : SeatView) → n < length seats → seat ≡ slice_index_or seats n seat → seat.hart ≢ h
    → IsNoneBelow n seats h → IsNoneBelow (n + 1) seats h
none_below_more n seats h seat inside is other none = λ at s less got. elim (cases_eq at n) [
  | inl here ↦
      let there : slice_get seats n ≡ Some seat = slice_get_read seats (length seats) n seat refl inside is in
      let same : Some seat ≡ Some s = sym there ∙ ap (λ (i : ℕ). slice_get seats i) (sym here) ∙ got in
      let one : seat ≡ s = cc in
      subst (λ (x : SeatView). x.hart ≢ h) one other
  | inr apart ↦ none at s (omega (arith, less, apart)) got
]

pub none_of : (n : ℕ) (seats : List SeatView) (h : ℕ) → length seats ≤ n → IsNoneBelow n seats h → HasNoSeat seats h
none_of n seats h whole none = λ at seat got.
    let inside = slice_get_within seats at seat got in
    none at seat (omega (arith, inside, whole)) got

-- each of the first n seats is that of one of so many harts
abbrev pub AreLow : ℕ → List SeatView → ℕ → Type 0
AreLow n seats harts = (at : ℕ) (seat : SeatView) → at < n → slice_get seats at ≡ Some seat → seat.hart < harts

pub low_zero : (seats : List SeatView) (harts : ℕ) → AreLow 0 seats harts
low_zero seats harts = λ at seat less got. absurd (omega (arith, less))

pub low_more : (n : ℕ) (seats : List SeatView) (harts : ℕ) (seat : SeatView) → n < length seats → seat ≡ slice_index_or seats n seat → seat.hart < harts
    → AreLow n seats harts → AreLow (n + 1) seats harts
low_more n seats harts seat inside is low before = λ at s less got. elim (cases_eq at n) [
  | inl here ↦
      let there : slice_get seats n ≡ Some seat = slice_get_read seats (length seats) n seat refl inside is in
      let same : Some seat ≡ Some s = sym there ∙ ap (λ (i : ℕ). slice_get seats i) (sym here) ∙ got in
      let one : seat ≡ s = cc in
      subst (λ (x : SeatView). x.hart < harts) one low
  | inr apart ↦ before at s (omega (arith, less, apart)) got
]

pub none_large : (n : ℕ) (seats : List SeatView) (harts : ℕ) → length seats ≤ n → AreLow n seats harts → HasTooLarge harts seats → ⊥
none_large n seats harts whole low large =
    let inside = slice_get_within seats large.at large.seat large.there in
    let below = low large.at large.seat (omega (arith, inside, whole)) large.there in
    let past = large.large in
    omega (arith, below, past)

pub too_large : (seats : List SeatView) (harts at : ℕ) (seat : SeatView) → at < length seats → seat ≡ slice_index_or seats at seat → harts ≤ seat.hart
    → HasTooLarge harts seats
too_large seats harts at seat inside is large = record {
  at = at;
  seat = seat;
  there = slice_get_read seats (length seats) at seat refl inside is;
  large = large;
}

-- how many seats are hart h's
number : ℕ → SeatView → ℕ
number h seat = if eqb seat.hart h then 1 else 0

number_yes : (h : ℕ) (seat : SeatView) → seat.hart ≡ h → number h seat ≡ 1
unfolding number
number_yes h seat same = rw (eq-eqb seat.hart h same) refl

number_no : (h : ℕ) (seat : SeatView) → eqb seat.hart h ≡ false → number h seat ≡ 0
unfolding number
number_no h seat other = rw other refl

one_counted : (h : ℕ) (xs : List SeatView) (i : ℕ) (s : SeatView) → slice_get xs i ≡ Some s → s.hart ≡ h → 1 ≤ sum_by (number h) xs
one_counted h [] i s got same = absurd (cc)
one_counted h (x ∷ xs) zero s got same =
    let is : s ≡ x = cc in
    let own : number h x ≡ 1 = number_yes h x (ap (λ (y : SeatView). y.hart) (sym is) ∙ same) in
    let sum = sum_by-cons (number h) x xs in
    omega (arith, own, sum)
one_counted h (x ∷ xs) (suc i) s got same =
    let rest = one_counted h xs i s got same in
    let sum = sum_by-cons (number h) x xs in
    omega (arith, rest, sum)

two_counted : (h : ℕ) (xs : List SeatView) (i j : ℕ) (s t : SeatView) → i < j → slice_get xs i ≡ Some s → slice_get xs j ≡ Some t → s.hart ≡ h
    → t.hart ≡ h → 2 ≤ sum_by (number h) xs
two_counted h [] i j s t less got there one other = absurd (cc)
two_counted h (x ∷ xs) zero zero s t less got there one other = absurd (omega (arith, less))
two_counted h (x ∷ xs) zero (suc j) s t less got there one other =
    let is : s ≡ x = cc in
    let own : number h x ≡ 1 = number_yes h x (ap (λ (y : SeatView). y.hart) (sym is) ∙ one) in
    let rest = one_counted h xs j t there other in
    let sum = sum_by-cons (number h) x xs in
    omega (arith, own, rest, sum)
two_counted h (x ∷ xs) (suc i) zero s t less got there one other = absurd (omega (arith, less))
two_counted h (x ∷ xs) (suc i) (suc j) s t less got there one other =
    let rest = two_counted h xs i j s t (omega (arith, less)) got there one other in
    let sum = sum_by-cons (number h) x xs in
    omega (arith, rest, sum)

shifted : (x : SeatView) (xs : List SeatView) (h : ℕ) → (i : ℕ) × IsSeatOf xs i h → (i : ℕ) × IsSeatOf (x ∷ xs) i h
shifted x xs h found = (suc found.0, record { seat = found.1.seat; there = found.1.there; number = found.1.number })

one_found : (h : ℕ) (xs : List SeatView) → 1 ≤ sum_by (number h) xs → (i : ℕ) × IsSeatOf xs i h
one_found h [] some = absurd (omega (arith, some))
one_found h (x ∷ xs) some = elim (cases_Bool (eqb x.hart h)) [
  | inl same ↦ (0, record { seat = x; there = refl; number = eqb-true x.hart h same })
  | inr other ↦
      let none = number_no h x other in
      let sum = sum_by-cons (number h) x xs in
      shifted x xs h (one_found h xs (omega (arith, some, none, sum)))
]

two_found : (h : ℕ) (xs : List SeatView) → 2 ≤ sum_by (number h) xs → HasTwice xs
two_found h [] some = absurd (omega (arith, some))
two_found h (x ∷ xs) some = elim (cases_Bool (eqb x.hart h)) [
  | inl same ↦
      let own = number_yes h x (eqb-true x.hart h same) in
      let sum = sum_by-cons (number h) x xs in
      let found = one_found h xs (omega (arith, some, own, sum)) in
      record {
        one = 0;
        other = suc found.0;
        at_one = x;
        at_other = found.1.seat;
        apart = omega arith;
        first = refl;
        second = found.1.there;
        same = eqb-true x.hart h same ∙ sym found.1.number;
      }
  | inr other ↦
      let none = number_no h x other in
      let sum = sum_by-cons (number h) x xs in
      let rest = two_found h xs (omega (arith, some, none, sum)) in
      let apart = rest.apart in
      record {
        one = suc rest.one;
        other = suc rest.other;
        at_one = rest.at_one;
        at_other = rest.at_other;
        apart = omega (arith, apart);
        first = rest.first;
        second = rest.second;
        same = rest.same;
      }
]

-- seats that have changed places
one_kept : (xs ys : List SeatView) (h i : ℕ) (s : SeatView) → IsPermutation xs ys → slice_get xs i ≡ Some s → s.hart ≡ h → (j : ℕ) × IsSeatOf ys j h
one_kept xs ys h i s same got is =
    let some = one_counted h xs i s got is in
    let count = sum_by-IsPermutation (number h) xs ys same in
    one_found h ys (omega (arith, some, count))

one_was : (xs ys : List SeatView) (h i : ℕ) (s : SeatView) → IsPermutation xs ys → slice_get ys i ≡ Some s → s.hart ≡ h → (j : ℕ) × IsSeatOf xs j h
one_was xs ys h i s same got is =
    let some = one_counted h ys i s got is in
    let count = sum_by-IsPermutation (number h) xs ys same in
    one_found h xs (omega (arith, some, count))

twice_kept : (xs ys : List SeatView) → IsPermutation xs ys → HasTwice xs → HasTwice ys
twice_kept xs ys same twice =
    let h : ℕ = twice.at_one.hart in
    let some = two_counted h xs twice.one twice.other twice.at_one twice.at_other twice.apart twice.first twice.second refl (sym twice.same) in
    let count = sum_by-IsPermutation (number h) xs ys same in
    two_found h ys (omega (arith, some, count))

twice_was : (xs ys : List SeatView) → IsPermutation xs ys → HasTwice ys → HasTwice xs
twice_was xs ys same twice =
    let h : ℕ = twice.at_one.hart in
    let some = two_counted h ys twice.one twice.other twice.at_one twice.at_other twice.apart twice.first twice.second refl (sym twice.same) in
    let count = sum_by-IsPermutation (number h) xs ys same in
    two_found h xs (omega (arith, some, count))

-- what stands where after an exchange of two places
swapped_else : (xs : List SeatView) (i j k : ℕ) (d : SeatView) → i < length xs → j < length xs → k ≢ i → k ≢ j
    → slice_get (swap xs i j) k ≡ slice_get xs k
swapped_else xs i j k d in_i in_j not_i not_j =
    ap (λ (l : List SeatView). slice_get l k) (sym (swap_is xs i j d in_i in_j))
    ∙ got_else (slice_set xs i (slice_index_or xs j d)) j k (slice_index_or xs i d) not_j
    ∙ got_else xs i k (slice_index_or xs j d) not_i

swapped_first : (xs : List SeatView) (i j : ℕ) (d : SeatView) → i < length xs → j < length xs → slice_get xs j ≡ Some d
    → slice_get (swap xs i j) i ≡ Some d
swapped_first xs i j d in_i in_j got =
    let there : slice_index_or xs j d ≡ d = get_or_from_slice_get xs j d d got in
    let is : slice_get (swap xs i j) i ≡ slice_get (slice_set (slice_set xs i (slice_index_or xs j d)) j (slice_index_or xs i d)) i =
    ap (λ (l : List SeatView). slice_get l i) (sym (swap_is xs i j d in_i in_j)) in
    elim (cases_eq i j) [
      | inl here ↦
          let set : slice_get (slice_set (slice_set xs i (slice_index_or xs j d)) j (slice_index_or xs i d)) j ≡ Some (slice_index_or xs i d) =
          got_set (slice_set xs i (slice_index_or xs j d)) j (slice_index_or xs i d) (omega (arith, in_j, length-set xs i (slice_index_or xs j d))) in
          let back : slice_index_or xs i d ≡ d = ap (λ (k : ℕ). slice_index_or xs k d) here ∙ there in
          is ∙ ap (λ (k : ℕ). slice_get (slice_set (slice_set xs i (slice_index_or xs j d)) j (slice_index_or xs i d)) k) here ∙ set
          ∙ ap (λ (s : SeatView). Some s) back
      | inr apart ↦
          is ∙ got_else (slice_set xs i (slice_index_or xs j d)) j i (slice_index_or xs i d) apart
          ∙ got_set xs i (slice_index_or xs j d) in_i ∙ ap (λ (s : SeatView). Some s) there
    ]

-- the loop
pub placed_none : (seats : List SeatView) → ArePlacedUpTo 0 seats seats
placed_none seats = record {
  same = IsPermutation-refl seats;
  enough = omega arith;
  placed = λ at seat less got. absurd (omega (arith, less));
}

pub placed_inside : (n : ℕ) (old new : List SeatView) (at : ℕ) → ArePlacedUpTo n old new → IsSeatOf new at n → n ≤ at
placed_inside n old new at p found = elim (cases_lt at n) [
  | inl low ↦
      let is = p.placed at found.seat low found.there in
      let number = found.number in
      absurd (omega (arith, low, is, number))
  | inr high ↦ high
]

pub seat_inside : (seats : List SeatView) (at h : ℕ) → IsSeatOf seats at h → at < length seats
seat_inside seats at h found = slice_get_within seats at found.seat found.there

pub placed_more : (n : ℕ) (old new next : List SeatView) (at : ℕ) → ArePlacedUpTo n old new → IsSeatOf new at n → next ≡ swap new n at
    → ArePlacedUpTo (n + 1) old next
placed_more n old new next at p found moved =
    let inside = seat_inside new at n found in
    let high = placed_inside n old new at p found in
    let also : n < length new = omega (arith, inside, high) in
    let size : length next ≡ length new = ap (λ (l : List SeatView). length l) moved ∙ length-swap new n at in
    record {
      same = IsPermutation-trans old new next p.same (IsPermutation-swap new next n at also inside moved);
      enough = omega (arith, also, size);
      placed = λ k seat less got. elim (cases_eq k n) [
        | inl here ↦
            let is : Some found.seat ≡ Some seat = sym (swapped_first new n at found.seat also inside found.there)
            ∙ ap (λ (l : List SeatView). slice_get l n) (sym moved) ∙ ap (λ (i : ℕ). slice_get next i) (sym here) ∙ got in
            let one : found.seat ≡ seat = cc in
            ap (λ (s : SeatView). s.hart) (sym one) ∙ found.number ∙ sym here
        | inr apart ↦
            let low : k < n = omega (arith, less, apart) in
            let other : k ≢ at = λ e. absurd (omega (arith, low, high, e)) in
            let was : slice_get new k ≡ Some seat = sym (swapped_else new n at k found.seat also inside apart other)
            ∙ ap (λ (l : List SeatView). slice_get l k) (sym moved) ∙ got in
            p.placed k seat low was
      ];
    }

pub missing : (n harts : ℕ) (old new : List SeatView) → n < harts → ArePlacedUpTo n old new → HasNoSeat new n → RefusesNumbers harts old SeatMissing
missing n harts old new less p none = (
  n,
  less,
  λ at seat got same.
      let found = one_kept old new n at seat p.same got same in
      none found.0 found.1.seat found.1.there found.1.number,
)

none_lacks : (harts : ℕ) (old new : List SeatView) → ArePlacedUpTo harts old new → LacksSeat harts old → ⊥
none_lacks harts old new p lacks =
    let h : ℕ = lacks.0 in
    let less = lacks.1 in
    let enough = p.enough in
    let inside : h < length new = omega (arith, less, enough) in
    let at = there_is new h inside in
    let found = one_was old new h h at.0 p.same at.1 (p.placed h at.0 less at.1) in
    lacks.2 found.0 found.1.seat found.1.there found.1.number

one_too_many : (harts : ℕ) (old new : List SeatView) → ArePlacedUpTo harts old new → (s : SeatView) × (slice_get new harts ≡ Some s)
    → HasTwice old ⊎ HasTooLarge harts old
one_too_many harts old new p at = elim (cases_lt at.0.hart harts) [
  | inl low ↦
      let enough = p.enough in
      let inside : at.0.hart < length new = omega (arith, low, enough) in
      let first = there_is new at.0.hart inside in
      inl (twice_was old new p.same (record {
        one = at.0.hart;
        other = harts;
        at_one = first.0;
        at_other = at.0;
        apart = low;
        first = first.1;
        second = at.1;
        same = p.placed at.0.hart first.0 low first.1;
      }))
  | inr high ↦
      let found = one_was old new at.0.hart harts at.0 p.same at.1 refl in
      let number = found.1.number in
      inr (record { at = found.0; seat = found.1.seat; there = found.1.there; large = omega (arith, high, number) })
]

pub too_many : (harts : ℕ) (old new : List SeatView) → harts < length new → ArePlacedUpTo harts old new → RefusesNumbers harts old SeatNumber
too_many harts old new more p =
    (none_lacks harts old new p, one_too_many harts old new p (there_is new harts more))

pub all_placed : (harts : ℕ) (old new : List SeatView) → length new ≤ harts → ArePlacedUpTo harts old new → ArePlaced harts old new
all_placed harts old new few p =
    let enough = p.enough in
    let numbered : (h : ℕ) (seat : SeatView) → slice_get new h ≡ Some seat → seat.hart ≡ h = λ h seat got.
    let inside = slice_get_within new h seat got in p.placed h seat (omega (arith, inside, few)) got in
    record {
      same = p.same;
      count = omega (arith, few, enough);
      numbered = numbered;
      once = record {
        each = none_lacks harts old new p;
        once = λ twice.
            let t = twice_kept old new p.same twice in
            let apart = t.apart in
            let one = numbered t.one t.at_one t.first in
            let other = numbered t.other t.at_other t.second in
            let same = t.same in
            absurd (omega (arith, apart, one, other, same));
        below = λ large.
            let found = one_kept old new large.seat.hart large.at large.seat p.same large.there refl in
            let inside = slice_get_within new found.0 found.1.seat found.1.there in
            let is = numbered found.0 found.1.seat found.1.there in
            let number = found.1.number in
            let high = large.large in
            absurd (omega (arith, inside, few, is, number, high));
      };
    }
