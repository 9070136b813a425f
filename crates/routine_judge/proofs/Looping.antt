-- One event more that is sound and taken in.
use Rattle.std.proofs.Common.{ℕ, ◌+◌, ◌<◌, List, [], ◌∷◌, ◌++◌, length, get_or, take, sym, subst}
use Rattle.std.proofs.lemmas.List.{take_more}
use Rattle.image_check.specs.OrderFaults.{IsBegunTwice, IsNotPending}
use Rattle.routine_judge.proofs.Faulting.{sound_more}
use Rattle.routine_judge.specs.MarkFaults.{AreSound, HasFault}
use Rattle.routine_judge.specs.Operations.{AreMarked}
use Rattle.routine_judge.specs.declared.history.fault.MarkFault.{MarkFault}
use Rattle.routine_judge.specs.declared.history.fault.MarkFault.TheVariants.{BegunTwice, NotPending}
use Rattle.routine_judge.specs.declared.history.operations.Operations.{Operations}
use Rattle.routine_judge.specs.declared.history.overlap.Overlap.{Overlap}
use Rattle.store_trace.specs.declared.event.Event.{Event}

pub event_more : (overlap : Overlap) (events : List Event) (i : ℕ) (d : Event) (old now : Operations) → i < length events →
    AreSound overlap events i → AreMarked (take i events) old →
    ((fault : MarkFault) → ¬ HasFault overlap (take i events) (get_or events i d) fault) →
    (¬ IsBegunTwice (take i events) (get_or events i d) → ¬ IsNotPending (take i events) (get_or events i d) → AreMarked (take i events ++ get_or events i d ∷ []) now) →
    AreSound overlap events (i + 1) × AreMarked (take (i + 1) events) now
event_more overlap events i d old now inside sound marked faultless noted = (
  sound_more overlap events i d sound faultless,
  subst (λ (es : List Event). AreMarked es now) (sym (take_more events i d inside)) (noted (faultless BegunTwice) (faultless NotPending)),
)
