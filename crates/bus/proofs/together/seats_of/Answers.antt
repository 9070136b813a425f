use Rattle.std.proofs.Common.{rules, ◌≡◌, ◌∙◌, ◌++◌, ◌∷◌, [], ℕ, List, All, map, append_assoc, ap, sym, subst}
use Rattle.std.proofs.lemmas.List.{map-append}
use Rattle.std.proofs.lemmas.List.Elements.{All-push}
use Rattle.workers.proofs.StopWordClosing.{next_of}
use Rattle.bus.specs.Driving.{HasEnded, badge}
use Rattle.bus.specs.Seats.{SeatView}
use Rattle.bus.proofs.together.seats_of.Goals as goal

pub loop-seat-preserved : goal.loop-seat-preserved
loop-seat-preserved c =
    let i = c.loop-seat.invariant in
    let seat : SeatView = c.in-Some.seat in
    let next : c.loop-seat.seat-iterator.rest.items ≡ c.in-Some.seat ∷ c.next.new.self.rest.items = search rules in
    let pushed : c.push.new.self.items ≡ c.loop-seat.seats.items ++ c.with_text.result ∷ [] = search rules in
    let its : badge c.with_text.result ≡ badge c.in-Some.seat = ap badge c.with_text.ensures in (
      append_assoc c.loop-seat.yielded (c.in-Some.seat ∷ []) c.next.new.self.rest.items ∙ (ap (λ l. c.loop-seat.yielded ++ l) (sym next) ∙ i.0),
      ap (map badge) pushed ∙ (map-append badge c.loop-seat.seats.items (c.with_text.result ∷ [])
          ∙ (ap (λ (l : List (ℕ × ℕ)). l ++ badge c.with_text.result ∷ []) i.1
          ∙ (ap (λ (k : ℕ × ℕ). map badge c.loop-seat.yielded ++ k ∷ []) its ∙ sym (map-append badge c.loop-seat.yielded (c.in-Some.seat ∷ []))))),
      (λ all. subst (All HasEnded) (sym pushed) (All-push HasEnded c.loop-seat.seats.items c.with_text.result (i.2 all)
          (subst HasEnded (sym c.with_text.ensures)
          (next_of HasEnded c.args.loose.items c.loop-seat.yielded c.loop-seat.seat-iterator.rest.items c.next.new.self.rest.items c.in-Some.seat all i.0 next)))),
    )
