use Rattle.std.proofs.Common.{◌≡◌, ◌∙◌, ℕ, List, Result, Ok, Err, IfOk, IfSome, length, ap}
use Rattle.std.proofs.lemmas.List.FromFn.{length-map-range_with_len}
use Rattle.std.specs.Result.{result_ok}
use Rattle.program.specs.Sections.{Sections}
use Rattle.bus.specs.Seats.{SeatView}
use Rattle.bus.specs.Starting.{AreAtStart, seat_at_start}
use Rattle.thread_tests.proofs.harts.programs.bus_of.Goals as goal

-- what holds of a result's value where it is taken alone
ok_so : {T E : Type 0} (r : Result T E) (P Q : T → Type 0) → ((x : T) → P x → Q x) → IfOk r P → IfSome (result_ok r) Q
ok_so (Ok x) P Q f p = f x p
ok_so (Err e) P Q f p = tt

-- there is a seat for each hart
one_each : (program : Sections) (lines : List (List ℕ)) (harts budget : ℕ) (seats : List SeatView) → AreAtStart program lines harts budget seats
    → length seats ≡ harts
one_each program lines harts budget seats start =
    ap (λ (l : List SeatView). length l) start.seats_are ∙ length-map-range_with_len (seat_at_start program.text budget start.copy) 0 harts

pub returns : goal.returns
returns c =
    rw c.ok.ensures.value (ok_so c.new.result _ _ (λ made start. one_each _ _ c.args.harts c.args.budget made.1.items start) c.new.ensures.seats)
