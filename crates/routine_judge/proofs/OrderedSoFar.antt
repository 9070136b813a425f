-- The precedence of a run's first events, with one more.
use Rattle.std.proofs.Common.{◌≡◌, ℕ, ◌+◌, ◌<◌, List, [], ◌∷◌, ◌++◌, length, get_or, take, sym, subst, arith}
use Rattle.std.proofs.lemmas.List.{take_more}
use Rattle.std.proofs.lemmas.Option.{slice_get-get_or}
use Rattle.routine_judge.specs.Order.{AreOrdered, AreSoundByHart, HasHartFault}
use Rattle.routine_judge.specs.Standing.{IsOrderOf}
use Rattle.routine_judge.specs.declared.history.fault.MarkFault.{MarkFault}
use Rattle.routine_judge.specs.declared.order.precedence.Precedence.{Precedence}
use Rattle.routine_judge.specs.declared.order.so_far.OrderSoFar.{OrderSoFar}
use Rattle.store_trace.specs.declared.event.Event.{Event}

pub order_more : (events : List Event) (at : ℕ) (d : Event) (old new : OrderSoFar) → at < length events → AreSoundByHart events (length events) →
    old.count ≡ at → new.count ≡ at + 1 →
    ((before : List Event) → AreOrdered before old.precedence → ((fault : MarkFault) → ¬ HasHartFault before (get_or events at d) fault) →
    AreOrdered (before ++ get_or events at d ∷ []) new.precedence) → IsOrderOf events old → IsOrderOf events new
order_more events at d old new inside sound here next taken is =
    let ordered : AreOrdered (take at events) old.precedence = subst (λ (n : ℕ). AreOrdered (take n events) old.precedence) here is.ordered in
    let after = taken (take at events) ordered (λ fault. sound at (get_or events at d) fault inside (slice_get-get_or events at d inside)) in
    record {
      within = omega (arith, next, inside);
      ordered = subst (λ (n : ℕ). AreOrdered (take n events) new.precedence) (sym next)
          (subst (λ (es : List Event). AreOrdered es new.precedence) (sym (take_more events at d inside)) after);
    }

pub order_kept : (events : List Event) (old new : OrderSoFar) → new.count ≡ old.count → new.precedence ≡ old.precedence → IsOrderOf events old → IsOrderOf events new
order_kept events old new count precedence is = record {
  within = omega (arith, count, is.within);
  ordered = subst (λ (n : ℕ). AreOrdered (take n events) new.precedence) (sym count)
      (subst (λ (p : Precedence). AreOrdered (take old.count events) p) (sym precedence) is.ordered);
}
