-- A request whose event would be one too many.
use Rattle.std.proofs.Common.{◌≡◌, ℕ, suc, ◌+◌, ◌-◌, ◌*◌, ◌%◌, ◌^◌, ◌<◌, ◌≤◌, ◌++◌, ◌∷◌, [], List, Option, Some, None, Bool, true, false, eqb, is_some, length, nat_le, if◌then◌else◌, refl, sym, ap, ◌∙◌, inl, inr, arith}
use Rattle.std.proofs.lemmas.Bool.{cases_Bool, le-leb, lt-leb}
use Rattle.std.proofs.lemmas.List.{append-nil}
use Rattle.std.proofs.lemmas.Nat.{one_shl, pow_pos, shl_whole}
use Rattle.hart.specs.Memory.{amo_result}
use Rattle.hart.specs.declared.need.AccessFault.TheVariants.{Outside}
use Rattle.hart.specs.declared.need.Reply.TheVariants.{Done, Fault}
use Rattle.hart.specs.declared.need.Request.TheVariants.{Amo, Cbo, Fence, Begin, End}
use Rattle.isa_table.specs.declared.instruction.CacheOp.{CacheOp}
use Rattle.isa_table.specs.declared.instruction.AtomicOp.{AtomicOp}
use Rattle.line_memory.specs.Memory.{IsWidth, Memory, fault_of, loaded_from, with_byte}
use Rattle.line_memory.proofs.Accesses.{none_peeked}
use Rattle.line_memory.specs.declared.MemFault.{MemFault}
use Rattle.verdict.specs.Bytes.{access_bytes}
use Rattle.line_memory.specs.declared.MemFault.TheVariants as faults
use Rattle.line_memory.specs.declared.TheConstants.{PERSISTENT_BASE}
use Rattle.store_trace.specs.declared.event.Event.{Event}
use Rattle.store_trace.specs.declared.event.Event.TheVariants as events
use Rattle.machine.specs.Replies.{events_of, events_of_write, if_persistent, line_of, offset_of}
use Rattle.recovery.specs.declared.overlay_memory.memory.Place.{Place}
use Rattle.recovery.specs.declared.overlay_memory.memory.Place.TheVariants.{Text, Data, Image}
use Rattle.recovery.specs.Memory.{HeldView, IsWithin, address_of, memory_of}
use Rattle.recovery.specs.World.{AreKept, IsNoted, IsServed, IsTooMany, Serves, WorldView, event_count, reply_to, with_event}
use Rattle.recovery.specs.declared.world.Served.{Served}
use Rattle.recovery.specs.declared.world.Served.TheVariants.{Full, Replied}

-- an access that can be made finds a number
found_if : (aligned : Bool) (o : Option ℕ)
    → (if aligned then (if is_some o then None else Some faults.Outside) else Some faults.Misaligned) ≡ None → (v : ℕ) × (o ≡ Some v)
found_if true (Some v) e = (v, refl)
found_if true None e = absurd (cc)
found_if false o e = absurd (cc)

some_loaded : (memory : Memory) (address width : ℕ) → fault_of memory address width ≡ None → (v : ℕ) × (loaded_from memory address width ≡ Some v)
unfolding fault_of
some_loaded memory address width none = found_if (eqb (address % width) 0) (loaded_from memory address width) none

pub events_counted : (address : ℕ) (event : Event) → length (if_persistent address event) ≡ event_count address
events_counted address event = elim (cases_Bool (nat_le PERSISTENT_BASE address)) [ inl e ↦ rw e refl | inr e ↦ rw e refl ]

pub amo_too_many : (world : WorldView) (image : List (List ℕ)) (op : AtomicOp) (address width operand : ℕ)
    → fault_of (memory_of world.held image) address width ≡ None → 65536 < world.events + event_count address
    → IsTooMany world image (Amo op address width operand)
amo_too_many world image op address width operand none more =
    let found = some_loaded (memory_of world.held image) address width none in
    let made : length (events_of 0 (Amo op address width operand) (reply_to world image (Amo op address width operand))) ≡ event_count address =
    rw (none, found.1) (events_counted address (events.Store 0 (line_of address) (offset_of address) width (amo_result op width found.0 operand))) in
    record { more = omega arith }

-- a line that an access of the image begins in is there
pub line_there : (held : HeldView) (width : ℕ) (place : Place) (address : ℕ) → IsWithin held width place → address ≡ address_of place
    → PERSISTENT_BASE ≤ address → line_of address < length held.image
line_there held width (Text offset) address within e above = let there = within.there in absurd (omega arith)
line_there held width (Data offset) address within e above = let there = within.there in absurd (omega arith)
line_there held width (Image offset) address within e above = let there = within.there in omega arith

-- the bits of an access's bytes
width_few : (width : ℕ) → IsWidth width → width < 64
width_few width (inl e) = omega (arith, e)
width_few width (inr (inl e)) = omega (arith, e)
width_few width (inr (inr (inl e))) = omega (arith, e)
width_few width (inr (inr (inr e))) = omega (arith, e)

pub access_bits : (address width : ℕ) → IsWidth width → offset_of address + width ≤ 64 →
    (((1 * 2 ^ width) % 2 ^ 64 - 1) * 2 ^ offset_of address) % 2 ^ 64 ≡ access_bytes (offset_of address) width
access_bits address width w fits =
    let some = pow_pos width in
    ap (λ (n : ℕ). ((n - 1) * 2 ^ offset_of address) % 2 ^ 64) (one_shl width 64 (width_few width w))
    ∙ shl_whole (2 ^ width - 1) width (offset_of address) 64 (omega (arith, some)) (omega (arith, fits))

-- a store that is aligned lies in its line
pub aligned_in_line : (address width : ℕ) → IsWidth width → address % width ≡ 0 → PERSISTENT_BASE ≤ address → offset_of address % width ≡ 0
aligned_in_line address width (inl e) aligned from = rw e (omega arith)
aligned_in_line address width (inr (inl e)) aligned from = rw e (omega (arith, rw e at aligned))
aligned_in_line address width (inr (inr (inl e))) aligned from = rw e (omega (arith, rw e at aligned))
aligned_in_line address width (inr (inr (inr e))) aligned from = rw e (omega (arith, rw e at aligned))

-- events that are kept
pub kept_none : (old new : WorldView) → new.keeps ≡ old.keeps → new.trace ≡ old.trace → AreKept old new []
kept_none old new same trace = record { keeps = same; trace = λ kept. trace ∙ sym (append-nil old.trace) }

pub kept_below : (old new : WorldView) (address width value : ℕ) → address < PERSISTENT_BASE → new.keeps ≡ old.keeps → new.trace ≡ old.trace
    → AreKept old new (events_of_write 0 (Some (record { address = address; width = width; value = value })))
kept_below old new address width value below same trace = rw (lt-leb PERSISTENT_BASE address below) (kept_none old new same trace)

one_kept : (old new : WorldView) (event : Event) → new.keeps ≡ old.keeps → new.trace ≡ (if old.keeps then old.trace ++ event ∷ [] else old.trace)
    → AreKept old new (event ∷ [])
one_kept old new event same trace = record { keeps = same; trace = λ kept. trace ∙ rw kept refl }

pub kept_above : (old new : WorldView) (address width value : ℕ) → PERSISTENT_BASE ≤ address → new.keeps ≡ old.keeps
    → new.trace ≡ (if old.keeps then old.trace ++ events.Store 0 (line_of address) (offset_of address) width value ∷ [] else old.trace)
    → AreKept old new (events_of_write 0 (Some (record { address = address; width = width; value = value })))
kept_above old new address width value above same trace =
    rw (le-leb PERSISTENT_BASE address above) (one_kept old new (events.Store 0 (line_of address) (offset_of address) width value) same trace)

event_kept : (old : WorldView) (event : Event) → AreKept old (with_event old event) (event ∷ [])
event_kept old event = one_kept old (with_event old event) event refl refl

-- requests that only make an event
pub fence_served : (old new : WorldView) (image : List (List ℕ)) (served : Served) → IsNoted old new (events.Fence 0) served → IsServed old new image Fence served
fence_served old new image (Replied reply) (done, e, few) = rw (done, e) (record {
  reply = refl;
  memory = refl;
  reserved = λ calls h. h;
  events = refl;
  few = rw e at few;
  kept = event_kept old (events.Fence 0);
  own = λ l. refl;
  asked = sym (append-nil old.asked);
})
fence_served old new image Full (e, more) = (e, record { more = more })

pub begin_served : (old new : WorldView) (image : List (List ℕ)) (op : ℕ) (served : Served) → IsNoted old new (events.Begin 0 op) served
    → IsServed old new image (Begin op) served
begin_served old new image op (Replied reply) (done, e, few) = rw (done, e) (record {
  reply = refl;
  memory = refl;
  reserved = λ calls h. h;
  events = refl;
  few = rw e at few;
  kept = event_kept old (events.Begin 0 op);
  own = λ l. refl;
  asked = sym (append-nil old.asked);
})
begin_served old new image op Full (e, more) = (e, record { more = more })

pub end_served : (old new : WorldView) (image : List (List ℕ)) (op : ℕ) (served : Served) → IsNoted old new (events.End 0 op) served
    → IsServed old new image (End op) served
end_served old new image op (Replied reply) (done, e, few) = rw (done, e) (record {
  reply = refl;
  memory = refl;
  reserved = λ calls h. h;
  events = refl;
  few = rw e at few;
  kept = event_kept old (events.End 0 op);
  own = λ l. refl;
  asked = sym (append-nil old.asked);
})
end_served old new image op Full (e, more) = (e, record { more = more })

-- an operation on the line of an address that is there
peeked : (found rest : Option ℕ) (v : ℕ) → with_byte found rest ≡ Some v → is_some found ≡ true
peeked None rest v e = absurd (cc)
peeked (Some byte) rest v e = refl

pub some_peeked : (memory : Memory) (address : ℕ) → fault_of memory address 1 ≡ None → is_some (memory address) ≡ true
unfolding loaded_from
some_peeked memory address none =
    let found = some_loaded memory address 1 none in
    peeked (memory address) (loaded_from memory (suc address) 0) found.0 found.1

pub clean_served : (old new : WorldView) (image : List (List ℕ)) (op : CacheOp) (address : ℕ) (served : Served) → PERSISTENT_BASE ≤ address
    → fault_of (memory_of old.held image) address 1 ≡ None → IsNoted old new (events.Clean 0 (line_of address)) served → IsServed old new image (Cbo op address) served
clean_served old new image op address (Replied reply) above none (done, e, few) =
    let there = some_peeked (memory_of old.held image) address none in
    rw (done, e) (record {
      reply = rw there refl;
      memory = refl;
      reserved = λ calls h. h;
      events = rw (le-leb PERSISTENT_BASE address above) refl;
      few = rw e at few;
      kept = rw (le-leb PERSISTENT_BASE address above) (event_kept old (events.Clean 0 (line_of address)));
      own = λ l. refl;
      asked = sym (append-nil old.asked);
    })
clean_served old new image op address Full above none (e, more) =
    let there = some_peeked (memory_of old.held image) address none in
    (e, record { more = rw (there, le-leb PERSISTENT_BASE address above) more })

pub low_clean_served : (old : WorldView) (image : List (List ℕ)) (op : CacheOp) (address : ℕ) → old.events ≤ 65536 → address < PERSISTENT_BASE
    → fault_of (memory_of old.held image) address 1 ≡ None → Serves old old image (Cbo op address) Done
low_clean_served old image op address few below none =
    let there = some_peeked (memory_of old.held image) address none in
    record {
      reply = rw there refl;
      memory = refl;
      reserved = λ calls h. h;
      events = rw (lt-leb PERSISTENT_BASE address below) (omega arith);
      few = few;
      kept = rw (lt-leb PERSISTENT_BASE address below) (kept_none old old refl refl);
      own = λ l. refl;
      asked = sym (append-nil old.asked);
    }

pub no_line_served : (old : WorldView) (image : List (List ℕ)) (op : CacheOp) (address : ℕ) (fault : MemFault) → old.events ≤ 65536
    → fault_of (memory_of old.held image) address 1 ≡ Some fault → Serves old old image (Cbo op address) (Fault Outside)
no_line_served old image op address fault few met = record {
  reply = rw (none_peeked (memory_of old.held image) address fault met) refl;
  memory = refl;
  reserved = λ calls h. h;
  events = omega arith;
  few = few;
  kept = kept_none old old refl refl;
  own = λ l. refl;
  asked = sym (append-nil old.asked);
}
