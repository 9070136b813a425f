-- What was gathered of seats that have ended, said of the seats with which their threads began.
use Rattle.std.proofs.Common.{◌≡◌, ◌<◌, ◌≤◌, ℕ, zero, suc, Bool, true, List, [], ◌∷◌, Option, Some, None, Result, Ok, Err, IfErr, IfOk, All, length, map, slice_get, slice_index_or, refl, sym, ap, subst, ◌∙◌, inl, inr, arith}
use Rattle.std.specs.List.{Contains}
use Rattle.std.proofs.lemmas.Option.{none-some, slice_get_read, slice_get_within, slice_get-get_or, get_or_from_slice_get}
use Rattle.std.proofs.lemmas.List.Elements.{All-contains}
use Rattle.std.proofs.lemmas.List.Sorted.{IsPermutation-sym, Contains-permutation}
use Rattle.hart.specs.declared.state.HartState.{HartState}
use Rattle.hart.specs.declared.state.Status.TheVariants.{Running}
use Rattle.machine.specs.Represents.{IsRunning}
use Rattle.machine.specs.Recorded.{RecordedView}
use Rattle.machine.specs.Steps.{all_steps}
use Rattle.bus.specs.declared.finish_fault.FinishFault.{FinishFault}
use Rattle.bus.specs.declared.finish_fault.FinishFault.TheVariants.{SeatMissing, SeatNumber, Foreign, Memory}
use Rattle.bus.specs.Crews.{AreDone}
use Rattle.bus.specs.Driving.{HasEnded, badge}
use Rattle.bus.specs.Seats.{SeatView}
use Rattle.bus.specs.Stepping.{BusView}
use Rattle.bus.specs.Together.{FillsTrace, HasLeft, HaveRun, IsAtBudget, IsFinished, IsFullOr, IsLeft, IsWithinBudget, RefusesFinish, RefusesRun, count_of}
use Rattle.bus.specs.declared.together.RunFault.{RunFault}
use Rattle.machine.specs.declared.shared_memory.fault.StepFault.{StepFault}

-- what stands at one place of two lists whose images are the same
twin : {A B : Type 0} (f : A → B) (xs ys : List A) (i : ℕ) (x : A) → map f xs ≡ map f ys → slice_get xs i ≡ Some x
    → (y : A) × (slice_get ys i ≡ Some y) × (f x ≡ f y)
twin f [] ys i x same got = absurd (none-some x got)
twin f (a ∷ more) [] i x same got = absurd (cc)
twin f (a ∷ more) (b ∷ bs) zero x same got = let heads : f a ≡ f b = cc in let is : a ≡ x = cc in (b, refl, ap f (sym is) ∙ heads)
twin f (a ∷ more) (b ∷ bs) (suc i) x same got = let tails : map f more ≡ map f bs = cc in twin f more bs i x tails got

-- where an element of an image comes from
origin : {A B : Type 0} (f : A → B) (xs : List A) (i : ℕ) (y : B) → slice_get (map f xs) i ≡ Some y
    → (x : A) × (slice_get xs i ≡ Some x) × (f x ≡ y)
origin f [] i y got = absurd (none-some y got)
origin f (a ∷ more) zero y got = let is : f a ≡ y = cc in (a, refl, is)
origin f (a ∷ more) (suc i) y got = origin f more i y got

place_of : (xs : List SeatView) (x : SeatView) → Contains xs x → (k : ℕ) × (slice_get xs k ≡ Some x)
place_of xs x within = (within.0, slice_get-get_or xs within.0 x within.1 ∙ ap (λ (y : SeatView). Some y) within.2)

-- what stands at a place that is there
found : {A : Type 0} (xs : List A) (i : ℕ) → i < length xs → (x : A) × (slice_get xs i ≡ Some x)
found [] i below = absurd (omega arith)
found (x ∷ xs) zero below = (x, refl)
found (x ∷ xs) (suc i) below = found xs i (omega (arith, below))

mapped : {A B : Type 0} (f : A → B) (xs : List A) (i : ℕ) (x : A) → slice_get xs i ≡ Some x → slice_get (map f xs) i ≡ Some (f x)
mapped {A = A} f [] i x got = absurd (none-some x got)
mapped {A = A} f (a ∷ more) zero x got = let is : a ≡ x = cc in ap (λ (y : A). Some (f y)) is
mapped {A = A} f (a ∷ more) (suc i) x got = mapped f more i x got

within_at : (bus : BusView) (given seats : List SeatView) (recorded : RecordedView) → map badge seats ≡ map badge given → (done : IsFinished bus seats recorded)
    → (h : ℕ) (seat : SeatView) → slice_get done.by_number h ≡ Some seat → IsWithinBudget given (all_steps recorded.items) h
within_at bus given seats recorded same done h seat there =
    let numbered : Contains done.by_number seat = (h, slice_get_within done.by_number h seat there, get_or_from_slice_get done.by_number h seat seat there) in
    let within : Contains seats seat = Contains-permutation done.by_number seats seat (IsPermutation-sym seats done.by_number done.same) numbered in
    let place = place_of seats seat within in
    let first = twin badge seats given place.0 seat same place.1 in
    let made = done.made h seat there in
    let most = done.within h seat there in
    let limit : seat.budget ≡ first.0.budget = ap (λ (b : ℕ × ℕ). b.1) first.2 in
    record {
      at = place.0;
      seat = first.0;
      there = first.1;
      number = sym (ap (λ (b : ℕ × ℕ). b.0) first.2) ∙ done.numbered h seat there;
      within = omega (arith, made, most, limit);
    }

module _ (bus : BusView) (given seats : List SeatView) (recorded : RecordedView) (same : map badge seats ≡ map badge given)
    (ended : All HasEnded seats) (done : IsFinished bus seats recorded) where
  spent_at : (h : ℕ) (s : HartState) → slice_get recorded.harts h ≡ Some s → s.status ≡ Running → IsAtBudget given (all_steps recorded.items) h
  spent_at h s got running =
      let from = origin (λ (seat : SeatView). seat.state) done.by_number h s (ap (λ (l : List HartState). slice_get l h) (sym done.harts) ∙ got) in
      let seat : SeatView = from.0 in
      let there : slice_get done.by_number h ≡ Some seat = from.1 in
      let numbered : Contains done.by_number seat = (h, slice_get_within done.by_number h seat there, get_or_from_slice_get done.by_number h seat seat there) in
      let within : Contains seats seat = Contains-permutation done.by_number seats seat (IsPermutation-sym seats done.by_number done.same) numbered in
      let place = place_of seats seat within in
      let first = twin badge seats given place.0 seat same place.1 in
      let its_end : HasEnded seat = All-contains HasEnded seats seat ended within in
      elim its_end [
        | inl stopped ↦ absurd (stopped (ap (λ (t : HartState). t.status) from.2 ∙ running))
        | inr spent ↦ record {
          at = place.0;
          seat = first.0;
          there = first.1;
          number = sym (ap (λ (b : ℕ × ℕ). b.0) first.2) ∙ done.numbered h seat there;
          spent = done.made h seat there ∙ (spent ∙ ap (λ (b : ℕ × ℕ). b.1) first.2);
        }
      ]

  pub have_run : HaveRun bus given recorded
  have_run = record {
    start = done.start;
    capacity = done.capacity;
    records = done.records;
    left_is = done.left_is;
    within = λ h s got.
        let from = origin (λ (seat : SeatView). seat.state) done.by_number h s (ap (λ (l : List HartState). slice_get l h) (sym done.harts) ∙ got) in
        within_at bus given seats recorded same done h from.0 from.1;
    ended = spent_at;
  }

pub left_at : (seats : List SeatView) (at : ℕ) (seat : SeatView) → at < length seats → seat ≡ slice_index_or seats at seat → IsLeft seat → HasLeft seats
left_at seats at seat inside is left = record {
  at = at;
  seat = seat;
  there = slice_get_read seats (length seats) at seat refl inside is;
  is_left = left;
}

-- the trace of what was gathered is full, and a seat has steps left
pub fills_trace : (bus : BusView) (given seats : List SeatView) (recorded : RecordedView) → map badge seats ≡ map badge given → HasLeft seats
    → IsFinished bus seats recorded → length recorded.trace ≡ 65536 → FillsTrace bus given
fills_trace bus given seats recorded same left done full = record {
  steps = all_steps recorded.items;
  end = done.records.end;
  run = done.records.runs;
  full = ap length (sym done.records.trace) ∙ full;
  within = λ h below.
      let there = found done.by_number h (omega (arith, below, done.count)) in
      within_at bus given seats recorded same done h there.0 there.1;
  goes_on =
      let numbered : Contains done.by_number left.seat = Contains-permutation seats done.by_number left.seat done.same
      (left.at, slice_get_within seats left.at left.seat left.there, get_or_from_slice_get seats left.at left.seat left.seat left.there) in
      let place = place_of done.by_number left.seat numbered in
      let first = twin badge seats given left.at left.seat same left.there in
      let number : left.seat.hart ≡ first.0.hart = ap (λ (b : ℕ × ℕ). b.0) first.2 in
      let budget : left.seat.budget ≡ first.0.budget = ap (λ (b : ℕ × ℕ). b.1) first.2 in
      let its : place.0 ≡ first.0.hart = sym (done.numbered place.0 left.seat place.1) ∙ number in
      let made : count_of place.0 (all_steps recorded.items) ≡ left.seat.made = done.made place.0 left.seat place.1 in
      let fewer : left.seat.made < left.seat.budget = left.is_left.left in
      let state : slice_get done.records.end.harts place.0 ≡ Some left.seat.state =
      ap (λ (l : List HartState). slice_get l place.0) (sym done.records.harts ∙ done.harts)
      ∙ mapped (λ (seat : SeatView). seat.state) done.by_number place.0 left.seat place.1 in
      record {
        at = left.at;
        seat = first.0;
        there = first.1;
        running = subst (λ (h : ℕ). IsRunning (slice_get done.records.end.harts h)) its (subst IsRunning (sym state) left.is_left.running);
        left = subst (λ (h : ℕ). count_of h (all_steps recorded.items) < first.0.budget) its (omega (arith, made, fewer, budget));
      };
}

-- why seats aren't gathered is seen of their numbers alone
pub refused_so : (harts : ℕ) (given seats : List SeatView) (fault : FinishFault) → map badge seats ≡ map badge given
    → RefusesFinish harts seats fault → RefusesFinish harts given fault
refused_so harts given seats SeatMissing same refused = (
  refused.0,
  refused.1,
  λ place seat got e.
      let t = twin badge given seats place seat (sym same) got in
      refused.2 place t.0 t.1 (sym (ap (λ (b : ℕ × ℕ). b.0) t.2) ∙ e),
)
refused_so harts given seats SeatNumber same refused = elim refused [
  | inl twice ↦
      let s = twin badge seats given twice.one twice.at_one same twice.first in
      let t = twin badge seats given twice.other twice.at_other same twice.second in
      inl (record {
        one = twice.one;
        other = twice.other;
        at_one = s.0;
        at_other = t.0;
        apart = twice.apart;
        first = s.1;
        second = t.1;
        same = sym (ap (λ (b : ℕ × ℕ). b.0) s.2) ∙ (twice.same ∙ ap (λ (b : ℕ × ℕ). b.0) t.2);
      })
  | inr large ↦
      let t = twin badge seats given large.at large.seat same large.there in
      inr (record { at = large.at; seat = t.0; there = t.1; large = subst (λ (n : ℕ). harts ≤ n) (ap (λ (b : ℕ × ℕ). b.0) t.2) large.large })
]
refused_so harts given seats Foreign same refused = tt
refused_so harts given seats Memory same refused = tt

pub run_so : (bus : BusView) (given seats : List SeatView) (recorded : RecordedView) (refused : Option StepFault) → refused ≡ None
    → AreDone given seats refused → IsFinished bus seats recorded → HaveRun bus given recorded
run_so bus given seats recorded refused none done finished = have_run bus given seats recorded done.same (done.ended none) finished

-- what is said of whatever the threads began with holds of the seats that were given
pub done_ok : (bus : BusView) (given seats : List SeatView) (refused : Option StepFault) (r : Result RecordedView RunFault) → AreDone given seats refused
    → IfOk r (λ (recorded : RecordedView). (all : List SeatView) → AreDone all seats refused → HaveRun bus all recorded) → IfOk r (HaveRun bus given)
done_ok bus given seats refused (Ok recorded) done each = each given done
done_ok bus given seats refused (Err fault) done each = tt

pub done_err : (bus : BusView) (given seats : List SeatView) (refused : Option StepFault) (r : Result RecordedView RunFault) → AreDone given seats refused
    → IfErr r (λ (fault : RunFault). (all : List SeatView) → AreDone all seats refused → RefusesRun bus all fault) → IfErr r (RefusesRun bus given)
done_err bus given seats refused (Ok recorded) done each = tt
done_err bus given seats refused (Err fault) done each = each given done

-- what is reported of a full trace
pub traced : (bus : BusView) (given seats : List SeatView) (recorded : RecordedView) (left full : Bool) (fault : RunFault) → map badge seats ≡ map badge given
    → (left ≡ true → HasLeft seats) → IsFinished bus seats recorded → (full ≡ true → length recorded.trace ≡ 65536) → IsFullOr left full fault
    → RefusesRun bus given fault
traced bus given seats recorded left full fault same of done is (inl x) =
    subst (RefusesRun bus given) (sym x.2) (fills_trace bus given seats recorded same (of x.0) done (is x.1))
traced bus given seats recorded left full fault same of done is (inr foreign) = subst (RefusesRun bus given) (sym foreign) tt
