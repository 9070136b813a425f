-- What the commands on points do, by what the debugger's calls answer.
use Rattle.std.proofs.Common.{◌≡◌, ◌∙◌, ◌↔◌, ◌⊎◌, inl, inr, ℕ, Bool, true, false, Option, Some, None, Result, Ok, Err, IsSome, refl, ap, length}
use Rattle.std.specs.List.{list_any}
use Rattle.machine.specs.SharedView.{memory_of}
use Rattle.debugger.specs.Points.{DebuggerView, can_break, has_break, has_watch, is_meant, line_start, with_break, with_watch, without}
use Rattle.debugger.specs.declared.fault.DebugFault.{DebugFault}
use Rattle.debugger.specs.declared.fault.DebugFault.TheVariants as faults
use Rattle.debugger.specs.CommandEffects.{Breaks, Clears, Watches}
use Rattle.debugger.specs.declared.sessions.effects.Answer.TheVariants as answers

not_false : (b : Bool) → (b ≡ false → ⊥) → b ≡ true
not_false true off = refl
not_false false off = absurd (off refl)

not_none : (byte : Option ℕ) → (byte ≡ None → ⊥) → IsSome byte
not_none (Some byte) off = refl
not_none None off = absurd (off refl)

no_err : {T : Type 0} (r : Result T DebugFault) (value : T) (fault : DebugFault) → r ≡ Ok value → r ≡ Err fault → ⊥
no_err r value fault ok err = absurd (cc)

pub break_set : {T : Type 0} (r : Result T DebugFault) (value : T) (old new : DebuggerView) (address : ℕ) → r ≡ Ok value
    → new ≡ record old { points = with_break old.points address } → ((r ≡ Err faults.Address) ↔ (can_break address ≡ false))
    → ((r ≡ Err faults.PointsFull) ↔ ((can_break address ≡ true) × (has_break old.points address ≡ false) × (length old.points ≡ 64)))
    → Breaks old new address (Ok answers.Done)
break_set r value old new address ok set far full =
    let can : can_break address ≡ true = not_false (can_break address) (λ e. no_err r value faults.Address ok (far.1 e)) in
    (can, λ no. no_err r value faults.PointsFull ok (full.1 (can, no.0, no.1)), set)

pub break_refused : {T : Type 0} (r : Result T DebugFault) (fault : DebugFault) (old new : DebuggerView) (address : ℕ) → r ≡ Err fault → new ≡ old
    → ((r ≡ Err faults.Address) ↔ (can_break address ≡ false))
    → ((r ≡ Err faults.PointsFull) ↔ ((can_break address ≡ true) × (has_break old.points address ≡ false) × (length old.points ≡ 64)))
    → (fault ≡ faults.Address) ⊎ (fault ≡ faults.PointsFull) → Breaks old new address (Err fault)
break_refused {T} r fault old new address err same far full (inl e) =
    let is : r ≡ Err faults.Address = err ∙ ap (λ (f : DebugFault). Err f) e in
    rw e (far.0 is, same)
break_refused {T} r fault old new address err same far full (inr e) =
    let is : r ≡ Err faults.PointsFull = err ∙ ap (λ (f : DebugFault). Err f) e in
    let no = full.0 is in
    rw e (no.0, (no.1, no.2), same)

pub watch_set : {T : Type 0} (r : Result T DebugFault) (value : T) (old new : DebuggerView) (address : ℕ) → r ≡ Ok value
    → new ≡ record old { points = with_watch old.points (line_start address) }
    → ((r ≡ Err faults.Address) ↔ (memory_of old.machine.shared address ≡ None))
    → ((r ≡ Err faults.PointsFull) ↔ (IsSome (memory_of old.machine.shared address)
    × (has_watch old.points (line_start address) ≡ false) × (length old.points ≡ 64)))
    → Watches old new address (Ok answers.Done)
watch_set r value old new address ok set far full =
    let there : IsSome (memory_of old.machine.shared address) =
    not_none (memory_of old.machine.shared address) (λ e. no_err r value faults.Address ok (far.1 e)) in
    (there, λ no. no_err r value faults.PointsFull ok (full.1 (there, no.0, no.1)), set)

pub watch_refused : {T : Type 0} (r : Result T DebugFault) (fault : DebugFault) (old new : DebuggerView) (address : ℕ) → r ≡ Err fault → new ≡ old
    → ((r ≡ Err faults.Address) ↔ (memory_of old.machine.shared address ≡ None))
    → ((r ≡ Err faults.PointsFull) ↔ (IsSome (memory_of old.machine.shared address)
    × (has_watch old.points (line_start address) ≡ false) × (length old.points ≡ 64)))
    → (fault ≡ faults.Address) ⊎ (fault ≡ faults.PointsFull) → Watches old new address (Err fault)
watch_refused {T} r fault old new address err same far full (inl e) =
    let is : r ≡ Err faults.Address = err ∙ ap (λ (f : DebugFault). Err f) e in
    rw e (far.0 is, same)
watch_refused {T} r fault old new address err same far full (inr e) =
    let is : r ≡ Err faults.PointsFull = err ∙ ap (λ (f : DebugFault). Err f) e in
    let no = full.0 is in
    rw e (no.0, (no.1, no.2), same)

pub points_cleared : {T : Type 0} (r : Result T DebugFault) (value : T) (old new : DebuggerView) (address : ℕ) → r ≡ Ok value
    → new ≡ record old { points = without old.points address }
    → ((r ≡ Err faults.Address) ↔ (list_any (is_meant address) old.points ≡ false)) → Clears old new address (Ok answers.Done)
points_cleared r value old new address ok set none =
    (not_false (list_any (is_meant address) old.points) (λ e. no_err r value faults.Address ok (none.1 e)), set)

pub clear_refused : {T : Type 0} (r : Result T DebugFault) (fault : DebugFault) (old new : DebuggerView) (address : ℕ) → r ≡ Err fault → new ≡ old
    → ((r ≡ Err faults.Address) ↔ (list_any (is_meant address) old.points ≡ false)) → fault ≡ faults.Address
    → Clears old new address (Err fault)
clear_refused {T} r fault old new address err same none e =
    let is : r ≡ Err faults.Address = err ∙ ap (λ (f : DebugFault). Err f) e in
    rw e (none.0 is, same)
