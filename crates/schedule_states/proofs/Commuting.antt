-- A hart's own affair commutes with the requests of others that keep to the claims.
use Rattle.std.proofs.Common.{◌≡◌, ◌≢◌, ◌⊎◌, inl, inr, ℕ, zero, suc, ◌+◌, ◌*◌, ◌/◌, ◌≤◌, ◌&&◌, List, [], ◌∷◌, Bool, true, false, eqb, nat_le, nat_lt, Option, Some, None, arith, refl, sym, ap, ◌∙◌, subst}
use Rattle.std.specs.Prelude.{IfSome, if◌then◌else◌}
use Rattle.std.proofs.lemmas.Bool.{and_right, cases_Bool, cases_eq, le-ltb, leb-true}
use Rattle.std.proofs.lemmas.Bool.Decides.{nat_tests}
use Rattle.isa_table.specs.declared.instruction.CacheOp.{CacheOp}
use Rattle.line_memory.specs.Memory.{Memory}
use Rattle.line_memory.specs.declared.TheConstants.{PERSISTENT_BASE, TEXT_BASE, TEXT_SIZE}
use Rattle.hart.specs.Requests.{IsRequest}
use Rattle.hart.specs.declared.need.Request.{Request}
use Rattle.hart.specs.declared.need.Request.TheVariants.{Load, Store, Lr, Sc, Amo, Cbo, Fence, FenceI, Begin, End}
use Rattle.hart.specs.declared.need.Reply.{Reply}
use Rattle.hart.specs.declared.need.Reply.TheVariants.{Value, Done, Fault}
use Rattle.reservation.specs.Reserved.{Call, Reserved, Stored, Taken}
use Rattle.store_trace.specs.History.{history}
use Rattle.store_trace.specs.declared.event.Event.{Event}
use Rattle.store_trace.specs.declared.event.Event.TheVariants as events
use Rattle.store_trace.specs.declared.crash_model.step.PersistenceStep.{PersistenceStep}
use Rattle.store_trace.specs.declared.crash_model.step.PersistenceStep.TheVariants as step
use Rattle.schedule_states.specs.Claims.{IsLocal, IsOwn, KeepsClaims, MayTouch, MayWrite, Touches}
use Rattle.schedule_states.specs.declared.claims.Claim.{Claim}
use Rattle.schedule_states.specs.declared.claims.Claim.TheVariants.{Unwritten}
use Rattle.machine.specs.Histories.{Write, calls_of, calls_of_write, memory_with, text_of, written}
use Rattle.machine.specs.declared.shared_memory.history.Entry.TheVariants.{Asked}
use Rattle.machine.specs.Replies.{events_of, events_of_write, line_of, offset_of, replied}
use Rattle.schedule_states.specs.Persisting.{IsApart, Persisted, with_step, with_steps}
use Rattle.schedule_states.specs.Seen.{Seen, reply_seen, reserved_by, reserved_with, seen_after, seen_with}
use Rattle.schedule_states.proofs.Accesses.{AsksReserved, IsWriteIn, memory_commutes, memory_elsewhere, reply_same, stored_elsewhere, writes_within}
use Rattle.schedule_states.proofs.Persisting.{clean_apart, store_apart}
use Rattle.schedule_states.proofs.Seen.{same_seen}

-- lines of a hart's own aren't touched by others
not_touched : (claims : ℕ → Option Claim) (h g l k : ℕ) → g ≢ h → IsOwn claims h l → MayTouch claims g k → l ≢ k
not_touched claims h g l k apart own may same = apart (sym (may h (subst (λ (m : ℕ). IsOwn claims h m) same own)))

keeps_off : (claims : ℕ → Option Claim) (h g l k : ℕ) (q : Request) → g ≢ h → IsOwn claims h l → KeepsClaims claims g q → Touches q k → l ≢ k
keeps_off claims h g l k (Load a w) apart own keeps touches = rw touches (not_touched claims h g l (a / 64) apart own keeps)
keeps_off claims h g l k (Store a w v) apart own keeps touches = rw touches (not_touched claims h g l (a / 64) apart own keeps.0)
keeps_off claims h g l k (Lr a w) apart own keeps touches = rw touches (not_touched claims h g l (a / 64) apart own keeps)
keeps_off claims h g l k (Sc a w v) apart own keeps touches = rw touches (not_touched claims h g l (a / 64) apart own keeps.0)
keeps_off claims h g l k (Amo op a w v) apart own keeps touches = rw touches (not_touched claims h g l (a / 64) apart own keeps.0)
keeps_off claims h g l k (Cbo op a) apart own keeps touches = rw touches (not_touched claims h g l (a / 64) apart own keeps)
keeps_off claims h g l k Fence apart own keeps touches = absurd touches
keeps_off claims h g l k FenceI apart own keeps touches = absurd touches
keeps_off claims h g l k (Begin op) apart own keeps touches = absurd touches
keeps_off claims h g l k (End op) apart own keeps touches = absurd touches

-- what a local request reads is a line of its own, or one to which nobody writes
abbrev pub IsQuietLine : (ℕ → Option Claim) → ℕ → ℕ → Type 0
IsQuietLine claims h l = IsOwn claims h l ⊎ (claims l ≡ Some Unwritten)

quiet_line : (claims : ℕ → Option Claim) (h l : ℕ) (r : Request) → IsLocal claims h r → Touches r l → IsQuietLine claims h l
quiet_line claims h l (Load a w) local touches = rw touches local
quiet_line claims h l (Store a w v) local touches = rw touches (inl local)
quiet_line claims h l (Cbo op a) local touches = rw touches (inl local)
quiet_line claims h l (Lr a w) local touches = absurd local
quiet_line claims h l (Sc a w v) local touches = absurd local
quiet_line claims h l (Amo op a w v) local touches = absurd local
quiet_line claims h l Fence local touches = absurd local
quiet_line claims h l FenceI local touches = absurd local
quiet_line claims h l (Begin op) local touches = absurd local
quiet_line claims h l (End op) local touches = absurd local

not_written : (claims : ℕ → Option Claim) (h g l k : ℕ) → g ≢ h → IsQuietLine claims h l → MayWrite claims g k → l ≢ k
not_written claims h g l k apart (inl own) may = not_touched claims h g l k apart own may.0
not_written claims h g l k apart (inr unwritten) may = λ same. may.1 (sym (ap (λ (m : ℕ). claims m) same) ∙ unwritten)

-- what others write lies elsewhere
in_other : (o : Option Write) (l a : ℕ) → l ≢ a / 64 → IfSome o (λ w. (k : ℕ) × (k ≡ a / 64) × IsWriteIn k w) → IfSome o (λ w. (k : ℕ) × (l ≢ k) × IsWriteIn k w)
in_other None l a other is = tt
in_other (Some w) l a other is = (is.0, (λ same. other (same ∙ is.1)), is.2)

writes_other : (claims : ℕ → Option Claim) (h g l : ℕ) (m : Memory) (s : ℕ → Bool) (q : Request) → g ≢ h → IsQuietLine claims h l → KeepsClaims claims g q → IsRequest q →
    IfSome (written q (replied m s q)) (λ w. (k : ℕ) × (l ≢ k) × IsWriteIn k w)
writes_other claims h g l m s (Load a w) apart quiet keeps is = tt
writes_other claims h g l m s (Store a w v) apart quiet keeps is =
    in_other (written (Store a w v) (replied m s (Store a w v))) l a (not_written claims h g l (a / 64) apart quiet keeps) (writes_within m s (Store a w v) is)
writes_other claims h g l m s (Lr a w) apart quiet keeps is = tt
writes_other claims h g l m s (Sc a w v) apart quiet keeps is =
    in_other (written (Sc a w v) (replied m s (Sc a w v))) l a (not_written claims h g l (a / 64) apart quiet keeps) (writes_within m s (Sc a w v) is)
writes_other claims h g l m s (Amo op a w v) apart quiet keeps is =
    in_other (written (Amo op a w v) (replied m s (Amo op a w v))) l a (not_written claims h g l (a / 64) apart quiet keeps) (writes_within m s (Amo op a w v) is)
writes_other claims h g l m s (Cbo op a) apart quiet keeps is = tt
writes_other claims h g l m s Fence apart quiet keeps is = tt
writes_other claims h g l m s FenceI apart quiet keeps is = tt
writes_other claims h g l m s (Begin op) apart quiet keeps is = tt
writes_other claims h g l m s (End op) apart quiet keeps is = tt

-- what comes of a local request: nothing, a store, or a clean, in a line of its own
pub data Effect : Type 0 where
  none : Effect
  stores : (a w v : ℕ) → Effect
  cleans : (a : ℕ) → Effect

abbrev pub clean_steps : ℕ → ℕ → List PersistenceStep
clean_steps h a = if nat_le PERSISTENT_BASE a then step.Clean h (line_of a) ∷ [] else []

abbrev pub store_steps : ℕ → ℕ → ℕ → List PersistenceStep
store_steps a w v = if nat_le PERSISTENT_BASE a then step.Store (line_of a) (offset_of a) w v ∷ [] else []

-- what it makes of what is seen
abbrev pub with_effect : ℕ → Effect → Seen → Seen
with_effect h none v = v
with_effect h (stores a w x) v = record v {
  memory = memory_with v.memory (Some (record { address = a; width = w; value = x }));
  reserved = reserved_with v.reserved (Stored h (a / 64));
  persisted = with_steps v.persisted (store_steps a w x);
}
with_effect h (cleans a) v = record v { persisted = with_steps v.persisted (clean_steps h a) }

abbrev pub IsEffectIn : (ℕ → Option Claim) → ℕ → Effect → Type 0
IsEffectIn claims h none = Unit {0}
IsEffectIn claims h (stores a w x) = IsOwn claims h (a / 64) × IsWriteIn (a / 64) (record { address = a; width = w; value = x })
IsEffectIn claims h (cleans a) = IsOwn claims h (a / 64)

-- a request with its reply has this effect, whatever is seen
pub record HasEffect (claims : ℕ → Option Claim) (h : ℕ) (r : Request) (reply : Reply) : Type 0 where
  pub effect : Effect
  pub in_line : IsEffectIn claims h effect
  pub is : (v : Seen) → seen_with v h r reply ≡ with_effect h effect v

steps_if : (test : Bool) (event : Event) → history (if test then event ∷ [] else []) ≡ (if test then history (event ∷ []) else [])
steps_if true event = refl
steps_if false event = refl

store_effect : (claims : ℕ → Option Claim) (h : ℕ) (m : Memory) (s : ℕ → Bool) (a w x : ℕ) (reply : Reply) → IsOwn claims h (a / 64) →
    IfSome (written (Store a w x) reply) (λ w. (k : ℕ) × (k ≡ a / 64) × IsWriteIn k w) → HasEffect claims h (Store a w x) reply
store_effect claims h m s a w x Done own is = record {
  effect = stores a w x;
  in_line = (own, subst (λ (k : ℕ). IsWriteIn k (record { address = a; width = w; value = x })) is.1 is.2);
  is = λ v. ap (λ (steps : List PersistenceStep). record v {
    memory = memory_with v.memory (Some (record { address = a; width = w; value = x }));
    reserved = reserved_with v.reserved (Stored h (a / 64));
    persisted = with_steps v.persisted steps;
  }) (steps_if (nat_le PERSISTENT_BASE a) _);
}
store_effect claims h m s a w x (Value n) own is = record { effect = none; in_line = tt; is = λ v. refl }
store_effect claims h m s a w x (Fault f) own is = record { effect = none; in_line = tt; is = λ v. refl }

clean_effect : (claims : ℕ → Option Claim) (h : ℕ) (op : CacheOp) (a : ℕ) (reply : Reply) → IsOwn claims h (a / 64) → HasEffect claims h (Cbo op a) reply
clean_effect claims h op a Done own = record {
  effect = cleans a;
  in_line = own;
  is = λ v. ap (λ (steps : List PersistenceStep). record v { persisted = with_steps v.persisted steps }) (steps_if (nat_le PERSISTENT_BASE a) _);
}
clean_effect claims h op a (Value n) own = record { effect = none; in_line = tt; is = λ v. refl }
clean_effect claims h op a (Fault f) own = record { effect = none; in_line = tt; is = λ v. refl }

pub local_effect : (claims : ℕ → Option Claim) (h : ℕ) (m : Memory) (s : ℕ → Bool) (r : Request) → IsLocal claims h r → IsRequest r → HasEffect claims h r (replied m s r)
local_effect claims h m s (Load a w) local is = record { effect = none; in_line = tt; is = λ v. refl }
local_effect claims h m s (Store a w x) local is = store_effect claims h m s a w x (replied m s (Store a w x)) local (writes_within m s (Store a w x) is)
local_effect claims h m s (Cbo op a) local is = clean_effect claims h op a (replied m s (Cbo op a)) local
local_effect claims h m s (Lr a w) local is = absurd local
local_effect claims h m s (Sc a w v) local is = absurd local
local_effect claims h m s (Amo op a w v) local is = absurd local
local_effect claims h m s Fence local is = absurd local
local_effect claims h m s FenceI local is = absurd local
local_effect claims h m s (Begin op) local is = absurd local
local_effect claims h m s (End op) local is = absurd local

-- what others do to reservations
abbrev IsCallApart : ℕ → Call → Type 0
IsCallApart l (Reserved hart line) = line ≢ l
IsCallApart l (Stored hart line) = Unit {0}
IsCallApart l (Taken hart) = Unit {0}

abbrev AreCallsApart : ℕ → List Call → Type 0
AreCallsApart l [] = Unit {0}
AreCallsApart l (call ∷ calls) = IsCallApart l call × AreCallsApart l calls

call_commutes : (reserved : ℕ → ℕ → Bool) (h l : ℕ) (call : Call) → IsCallApart l call → (f k : ℕ) →
    reserved_with (reserved_with reserved (Stored h l)) call f k ≡ reserved_with (reserved_with reserved call) (Stored h l) f k
call_commutes reserved h l (Reserved hart line) apart f k = grind (arith, nat_tests, apart)
call_commutes reserved h l (Stored hart line) apart f k = grind (arith, nat_tests)
call_commutes reserved h l (Taken hart) apart f k = grind (arith, nat_tests)

calls_commute : (reserved : ℕ → ℕ → Bool) (h l : ℕ) (calls : List Call) → AreCallsApart l calls →
    reserved_by (reserved_with reserved (Stored h l)) calls ≡ reserved_with (reserved_by reserved calls) (Stored h l)
calls_commute reserved h l [] apart = refl
calls_commute reserved h l (call ∷ calls) apart =
    ap (λ (r : ℕ → ℕ → Bool). reserved_with r call) (calls_commute reserved h l calls apart.1)
    ∙ (λ i f k. call_commutes (reserved_by reserved calls) h l call apart.0 f k i)

written_apart : (l g : ℕ) (o : Option Write) → AreCallsApart l (calls_of_write g o)
written_apart l g None = tt
written_apart l g (Some w) = (tt, tt)

calls_apart : (claims : ℕ → Option Claim) (h g l : ℕ) (q : Request) (reply : Reply) → g ≢ h → IsOwn claims h l → KeepsClaims claims g q → AreCallsApart l (calls_of (Asked g q reply))
calls_apart claims h g l (Load a w) reply apart own keeps = tt
calls_apart claims h g l (Store a w v) Done apart own keeps = (tt, tt)
calls_apart claims h g l (Store a w v) (Value n) apart own keeps = tt
calls_apart claims h g l (Store a w v) (Fault f) apart own keeps = tt
calls_apart claims h g l (Lr a w) (Value n) apart own keeps = (λ same. not_touched claims h g l (a / 64) apart own keeps (sym same), tt)
calls_apart claims h g l (Lr a w) Done apart own keeps = tt
calls_apart claims h g l (Lr a w) (Fault f) apart own keeps = tt
calls_apart claims h g l (Sc a w v) (Value zero) apart own keeps = (tt, (tt, tt))
calls_apart claims h g l (Sc a w v) (Value (suc n)) apart own keeps = (tt, tt)
calls_apart claims h g l (Sc a w v) Done apart own keeps = tt
calls_apart claims h g l (Sc a w v) (Fault f) apart own keeps = tt
calls_apart claims h g l (Amo op a w v) (Value n) apart own keeps = (tt, tt)
calls_apart claims h g l (Amo op a w v) Done apart own keeps = tt
calls_apart claims h g l (Amo op a w v) (Fault f) apart own keeps = tt
calls_apart claims h g l (Cbo op a) reply apart own keeps = tt
calls_apart claims h g l Fence reply apart own keeps = tt
calls_apart claims h g l FenceI reply apart own keeps = tt
calls_apart claims h g l (Begin op) reply apart own keeps = tt
calls_apart claims h g l (End op) reply apart own keeps = tt

-- what others do to persistent memory
abbrev AreApart : ℕ → ℕ → List PersistenceStep → Type 0
AreApart h l [] = Unit {0}
AreApart h l (x ∷ xs) = IsApart h l x × AreApart h l xs

stores_commute : (v : Persisted) (h l o w x : ℕ) (ys : List PersistenceStep) → AreApart h l ys →
    with_steps (with_step v (step.Store l o w x)) ys ≡ with_step (with_steps v ys) (step.Store l o w x)
stores_commute v h l o w x [] apart = refl
stores_commute v h l o w x (y ∷ ys) apart =
    ap (λ (p : Persisted). with_step p y) (stores_commute v h l o w x ys apart.1) ∙ store_apart (with_steps v ys) h l o w x y apart.0

cleans_commute : (v : Persisted) (h l : ℕ) (ys : List PersistenceStep) → AreApart h l ys →
    with_steps (with_step v (step.Clean h l)) ys ≡ with_step (with_steps v ys) (step.Clean h l)
cleans_commute v h l [] apart = refl
cleans_commute v h l (y ∷ ys) apart = ap (λ (p : Persisted). with_step p y) (cleans_commute v h l ys apart.1) ∙ clean_apart (with_steps v ys) h l y apart.0

other_line : (a b : ℕ) → PERSISTENT_BASE ≤ a → PERSISTENT_BASE ≤ b → a / 64 ≢ b / 64 → line_of b ≢ line_of a
other_line a b low high other same = other (omega (arith, low, high, same))

abbrev AreApartIf : ℕ → ℕ → List PersistenceStep → Type 0
AreApartIf h a steps = PERSISTENT_BASE ≤ a → AreApart h (line_of a) steps

write_apart : (h g a : ℕ) (o : Option Write) → IfSome o (λ w. (k : ℕ) × (a / 64 ≢ k) × IsWriteIn k w) → AreApartIf h a (history (events_of_write g o))
write_apart h g a None other low = tt
write_apart h g a (Some w) other low = elim (cases_Bool (nat_le PERSISTENT_BASE w.address)) [
  | inl high ↦ rw high (other_line a w.address low (leb-true PERSISTENT_BASE w.address high) (λ same. other.1 (same ∙ other.2.line)), tt)
  | inr not_high ↦ rw not_high tt
]

clean_is_apart : (h g a b : ℕ) → a / 64 ≢ b / 64 → AreApartIf h a (history (if nat_le PERSISTENT_BASE b then events.Clean g (line_of b) ∷ [] else []))
clean_is_apart h g a b other low = elim (cases_Bool (nat_le PERSISTENT_BASE b)) [
  | inl high ↦ rw high (other_line a b low (leb-true PERSISTENT_BASE b high) other, tt)
  | inr not_high ↦ rw not_high tt
]

steps_apart : (claims : ℕ → Option Claim) (h g a : ℕ) (m : Memory) (s : ℕ → Bool) (q : Request) (reply : Reply) → reply ≡ replied m s q → g ≢ h → IsOwn claims h (a / 64) →
    KeepsClaims claims g q → IsRequest q → AreApartIf h a (history (events_of g q reply))
steps_apart claims h g a m s (Cbo op b) Done same apart own keeps is = clean_is_apart h g a b (not_touched claims h g (a / 64) (b / 64) apart own keeps)
steps_apart claims h g a m s (Cbo op b) (Value n) same apart own keeps is = λ low. tt
steps_apart claims h g a m s (Cbo op b) (Fault f) same apart own keeps is = λ low. tt
steps_apart claims h g a m s Fence Done same apart own keeps is = λ low. (apart, tt)
steps_apart claims h g a m s Fence (Value n) same apart own keeps is = λ low. tt
steps_apart claims h g a m s Fence (Fault f) same apart own keeps is = λ low. tt
steps_apart claims h g a m s (Begin op) Done same apart own keeps is = λ low. tt
steps_apart claims h g a m s (Begin op) (Value n) same apart own keeps is = λ low. tt
steps_apart claims h g a m s (Begin op) (Fault f) same apart own keeps is = λ low. tt
steps_apart claims h g a m s (End op) Done same apart own keeps is = λ low. tt
steps_apart claims h g a m s (End op) (Value n) same apart own keeps is = λ low. tt
steps_apart claims h g a m s (End op) (Fault f) same apart own keeps is = λ low. tt
steps_apart claims h g a m s (Load b w) reply same apart own keeps is = λ low. tt
steps_apart claims h g a m s (Lr b w) reply same apart own keeps is = λ low. tt
steps_apart claims h g a m s FenceI reply same apart own keeps is = λ low. tt
steps_apart claims h g a m s (Store b w v) reply same apart own keeps is =
    subst (λ (r : Reply). AreApartIf h a (history (events_of g (Store b w v) r))) (sym same)
    (write_apart h g a (written (Store b w v) (replied m s (Store b w v))) (writes_other claims h g (a / 64) m s (Store b w v) apart (inl own) keeps is))
steps_apart claims h g a m s (Sc b w v) reply same apart own keeps is =
    subst (λ (r : Reply). AreApartIf h a (history (events_of g (Sc b w v) r))) (sym same)
    (write_apart h g a (written (Sc b w v) (replied m s (Sc b w v))) (writes_other claims h g (a / 64) m s (Sc b w v) apart (inl own) keeps is))
steps_apart claims h g a m s (Amo op b w v) reply same apart own keeps is =
    subst (λ (r : Reply). AreApartIf h a (history (events_of g (Amo op b w v) r))) (sym same)
    (write_apart h g a (written (Amo op b w v) (replied m s (Amo op b w v))) (writes_other claims h g (a / 64) m s (Amo op b w v) apart (inl own) keeps is))

-- the effect of a local request and another hart's request, one behind the other
text_byte_kept : (m : Memory) (w : Write) → TEXT_BASE + TEXT_SIZE ≤ 64 * (w.address / 64) → IsWriteIn (w.address / 64) w → (a : ℕ) → text_of (memory_with m (Some w)) a ≡ text_of m a
text_byte_kept m w behind is a = elim (cases_eq (a / 64) (w.address / 64)) [
  | inl here ↦
      let past : nat_lt a (TEXT_BASE + TEXT_SIZE) ≡ false = le-ltb a (TEXT_BASE + TEXT_SIZE) (omega (arith, here, behind)) in
      let out : (nat_le TEXT_BASE a && nat_lt a (TEXT_BASE + TEXT_SIZE)) ≡ false = and_right (nat_le TEXT_BASE a) (nat_lt a (TEXT_BASE + TEXT_SIZE)) past in
      rw out refl
  | inr elsewhere ↦ ap (λ (o : Option ℕ). if nat_le TEXT_BASE a && nat_lt a (TEXT_BASE + TEXT_SIZE) then o else None)
      (stored_elsewhere m (w.address / 64) w a is elsewhere)
]

text_kept : (claims : ℕ → Option Claim) (h : ℕ) (m : Memory) (w : Write) → IsOwn claims h (w.address / 64) → IsWriteIn (w.address / 64) w → text_of (memory_with m (Some w)) ≡ text_of m
text_kept claims h m w own is = λ i a. text_byte_kept m w own.1 is a i

other_text : (claims : ℕ → Option Claim) (h g f : ℕ) (e : Effect) (v : Seen) (q : Request) (reply : Reply) → IsEffectIn claims h e →
    (seen_with (with_effect h e v) g q reply).texts f ≡ (with_effect h e (seen_with v g q reply)).texts f
other_text claims h g f none v q reply is = refl
other_text claims h g f (cleans a) v q reply is = refl
other_text claims h g f (stores a w x) v (Load b n) reply is = refl
other_text claims h g f (stores a w x) v (Store b n y) reply is = refl
other_text claims h g f (stores a w x) v (Lr b n) reply is = refl
other_text claims h g f (stores a w x) v (Sc b n y) reply is = refl
other_text claims h g f (stores a w x) v (Amo op b n y) reply is = refl
other_text claims h g f (stores a w x) v (Cbo op b) reply is = refl
other_text claims h g f (stores a w x) v Fence reply is = refl
other_text claims h g f (stores a w x) v FenceI reply is =
    ap (λ (text : Memory). if eqb g f then text else v.texts f) (text_kept claims h v.memory (record { address = a; width = w; value = x }) is.0 is.1)
other_text claims h g f (stores a w x) v (Begin op) reply is = refl
other_text claims h g f (stores a w x) v (End op) reply is = refl

other_memory : (claims : ℕ → Option Claim) (h g : ℕ) (e : Effect) (v : Seen) (q : Request) (s : ℕ → Bool) (reply : Reply) → reply ≡ replied v.memory s q → g ≢ h → IsEffectIn claims h e →
    KeepsClaims claims g q → IsRequest q → (b : ℕ) → (seen_with (with_effect h e v) g q reply).memory b ≡ (with_effect h e (seen_with v g q reply)).memory b
other_memory claims h g none v q s reply same apart is keeps request b = refl
other_memory claims h g (cleans a) v q s reply same apart is keeps request b = refl
other_memory claims h g (stores a w x) v q s reply same apart is keeps request b =
    memory_commutes v.memory (a / 64) (Some (record { address = a; width = w; value = x })) (written q reply) b is.1
    (subst (λ (r : Reply). IfSome (written q r) (λ w. (k : ℕ) × (a / 64 ≢ k) × IsWriteIn k w)) (sym same)
    (writes_other claims h g (a / 64) v.memory s q apart (inl is.0) keeps request))

stores_if : (h a w x : ℕ) (v : Persisted) (ys : List PersistenceStep) → AreApartIf h a ys →
    with_steps (with_steps v (store_steps a w x)) ys ≡ with_steps (with_steps v ys) (store_steps a w x)
stores_if h a w x v ys apart = elim (cases_Bool (nat_le PERSISTENT_BASE a)) [
  | inl high ↦ rw high (stores_commute v h (line_of a) (offset_of a) w x ys (apart (leb-true PERSISTENT_BASE a high)))
  | inr not_high ↦ rw not_high refl
]

cleans_if : (h a : ℕ) (v : Persisted) (ys : List PersistenceStep) → AreApartIf h a ys →
    with_steps (with_steps v (clean_steps h a)) ys ≡ with_steps (with_steps v ys) (clean_steps h a)
cleans_if h a v ys apart = elim (cases_Bool (nat_le PERSISTENT_BASE a)) [
  | inl high ↦ rw high (cleans_commute v h (line_of a) ys (apart (leb-true PERSISTENT_BASE a high)))
  | inr not_high ↦ rw not_high refl
]

other_persisted : (claims : ℕ → Option Claim) (h g : ℕ) (e : Effect) (v : Seen) (q : Request) (s : ℕ → Bool) (reply : Reply) → reply ≡ replied v.memory s q → g ≢ h → IsEffectIn claims h e →
    KeepsClaims claims g q → IsRequest q → (seen_with (with_effect h e v) g q reply).persisted ≡ (with_effect h e (seen_with v g q reply)).persisted
other_persisted claims h g none v q s reply same apart is keeps request = refl
other_persisted claims h g (cleans a) v q s reply same apart is keeps request =
    cleans_if h a v.persisted (history (events_of g q reply)) (steps_apart claims h g a v.memory s q reply same apart is keeps request)
other_persisted claims h g (stores a w x) v q s reply same apart is keeps request =
    stores_if h a w x v.persisted (history (events_of g q reply)) (steps_apart claims h g a v.memory s q reply same apart is.0 keeps request)

other_reserved : (claims : ℕ → Option Claim) (h g : ℕ) (e : Effect) (v : Seen) (q : Request) (reply : Reply) → g ≢ h → IsEffectIn claims h e →
    KeepsClaims claims g q → (f l : ℕ) → (seen_with (with_effect h e v) g q reply).reserved f l ≡ (with_effect h e (seen_with v g q reply)).reserved f l
other_reserved claims h g none v q reply apart is keeps f l = refl
other_reserved claims h g (cleans a) v q reply apart is keeps f l = refl
other_reserved claims h g (stores a w x) v q reply apart is keeps f l =
    ap (λ (r : ℕ → ℕ → Bool). r f l) (calls_commute v.reserved h (a / 64) (calls_of (Asked g q reply)) (calls_apart claims h g (a / 64) q reply apart is.0 keeps))

effect_commutes : (claims : ℕ → Option Claim) (h g : ℕ) (e : Effect) (v : Seen) (q : Request) (s : ℕ → Bool) (reply : Reply) → reply ≡ replied v.memory s q → g ≢ h → IsEffectIn claims h e →
    KeepsClaims claims g q → IsRequest q → seen_with (with_effect h e v) g q reply ≡ with_effect h e (seen_with v g q reply)
effect_commutes claims h g e v q s reply same apart is keeps request = same_seen (seen_with (with_effect h e v) g q reply) (with_effect h e (seen_with v g q reply))
    (other_memory claims h g e v q s reply same apart is keeps request) (λ f. other_text claims h g f e v q reply is)
    (other_reserved claims h g e v q reply apart is keeps) (other_persisted claims h g e v q s reply same apart is keeps request)

-- the reply to either request doesn't depend on the other
effect_elsewhere : (claims : ℕ → Option Claim) (h l b : ℕ) (e : Effect) (v : Seen) → IsEffectIn claims h e → ((k : ℕ) → IsOwn claims h k → k ≢ l) → b / 64 ≡ l → (with_effect h e v).memory b ≡ v.memory b
effect_elsewhere claims h l b none v is off at = refl
effect_elsewhere claims h l b (cleans a) v is off at = refl
effect_elsewhere claims h l b (stores a w x) v is off at =
    stored_elsewhere v.memory (a / 64) (record { address = a; width = w; value = x }) b is.1 (λ same. off (a / 64) is.0 (sym same ∙ at))

effect_reserved : (claims : ℕ → Option Claim) (h g l : ℕ) (e : Effect) (v : Seen) → IsEffectIn claims h e → ((k : ℕ) → IsOwn claims h k → k ≢ l) → (with_effect h e v).reserved g l ≡ v.reserved g l
effect_reserved claims h g l none v is off = refl
effect_reserved claims h g l (cleans a) v is off = refl
effect_reserved claims h g l (stores a w x) v is off = let other : a / 64 ≢ l = off (a / 64) is.0 in grind (arith, nat_tests, other)

asks_touched : (q : Request) (l : ℕ) → AsksReserved q l → Touches q l
asks_touched (Load a w) l asks = absurd asks
asks_touched (Store a w v) l asks = absurd asks
asks_touched (Lr a w) l asks = absurd asks
asks_touched (Sc a w v) l asks = asks
asks_touched (Amo op a w v) l asks = absurd asks
asks_touched (Cbo op a) l asks = absurd asks
asks_touched Fence l asks = absurd asks
asks_touched FenceI l asks = absurd asks
asks_touched (Begin op) l asks = absurd asks
asks_touched (End op) l asks = absurd asks

same_after_effect : (claims : ℕ → Option Claim) (h g : ℕ) (e : Effect) (v : Seen) (q : Request) → g ≢ h → IsEffectIn claims h e → KeepsClaims claims g q → IsRequest q →
    reply_seen (with_effect h e v) g q ≡ reply_seen v g q
same_after_effect claims h g e v q apart is keeps request = reply_same (with_effect h e v).memory v.memory ((with_effect h e v).reserved g) (v.reserved g) q request
    (λ b touches. effect_elsewhere claims h (b / 64) b e v is (λ k own. keeps_off claims h g k (b / 64) q apart own keeps touches) refl)
    (λ l asks. effect_reserved claims h g l e v is (λ k own. keeps_off claims h g k l q apart own keeps (asks_touched q l asks)))

not_reserving : (claims : ℕ → Option Claim) (h l : ℕ) (r : Request) → IsLocal claims h r → AsksReserved r l → ⊥
not_reserving claims h l (Load a w) local asks = asks
not_reserving claims h l (Store a w v) local asks = asks
not_reserving claims h l (Lr a w) local asks = local
not_reserving claims h l (Sc a w v) local asks = local
not_reserving claims h l (Amo op a w v) local asks = local
not_reserving claims h l (Cbo op a) local asks = asks
not_reserving claims h l Fence local asks = local
not_reserving claims h l FenceI local asks = local
not_reserving claims h l (Begin op) local asks = local
not_reserving claims h l (End op) local asks = local

off_line : (o : Option Write) (l b : ℕ) → b / 64 ≡ l → IfSome o (λ w. (k : ℕ) × (l ≢ k) × IsWriteIn k w) → IfSome o (λ w. (k : ℕ) × (b / 64 ≢ k) × IsWriteIn k w)
off_line None l b at is = tt
off_line (Some w) l b at is = (is.0, (λ same. is.1 (sym at ∙ same)), is.2)

same_after_other : (claims : ℕ → Option Claim) (h g : ℕ) (v : Seen) (r q : Request) → g ≢ h → IsLocal claims h r → IsRequest r → KeepsClaims claims g q → IsRequest q →
    reply_seen (seen_after v g q) h r ≡ reply_seen v h r
same_after_other claims h g v r q apart local request keeps is = reply_same (seen_after v g q).memory v.memory ((seen_after v g q).reserved h) (v.reserved h) r request
    (λ b touches. memory_elsewhere v.memory (written q (reply_seen v g q)) b (off_line (written q (reply_seen v g q)) (b / 64) b refl
    (writes_other claims h g (b / 64) v.memory (v.reserved g) q apart (quiet_line claims h (b / 64) r local touches) keeps is)))
    (λ l asks. absurd (not_reserving claims h l r local asks))

-- The law: what is seen after both requests is the same in either order, and so are the replies.
pub record Commute (v : Seen) (h g : ℕ) (r q : Request) : Type 0 where
  pub other : reply_seen (seen_after v h r) g q ≡ reply_seen v g q
  pub own : reply_seen (seen_after v g q) h r ≡ reply_seen v h r
  pub seen : seen_after (seen_after v h r) g q ≡ seen_after (seen_after v g q) h r

pub local_commutes : (claims : ℕ → Option Claim) (h g : ℕ) (v : Seen) (r q : Request) → g ≢ h → IsLocal claims h r → IsRequest r → KeepsClaims claims g q → IsRequest q → Commute v h g r q
local_commutes claims h g v r q apart local request keeps is =
    let has : HasEffect claims h r (reply_seen v h r) = local_effect claims h v.memory (v.reserved h) r local request in
    let after : seen_after v h r ≡ with_effect h has.effect v = has.is v in
    let other : reply_seen (seen_after v h r) g q ≡ reply_seen v g q =
    ap (λ (u : Seen). reply_seen u g q) after ∙ same_after_effect claims h g has.effect v q apart has.in_line keeps is in
    let own : reply_seen (seen_after v g q) h r ≡ reply_seen v h r = same_after_other claims h g v r q apart local request keeps is in record {
      other = other;
      own = own;
      seen = ap (λ (reply : Reply). seen_with (seen_after v h r) g q reply) other
          ∙ ap (λ (u : Seen). seen_with u g q (reply_seen v g q)) after
          ∙ effect_commutes claims h g has.effect v q (v.reserved g) (reply_seen v g q) refl apart has.in_line keeps is
          ∙ sym (has.is (seen_after v g q))
          ∙ ap (λ (reply : Reply). seen_with (seen_after v g q) h r reply) (sym own);
    }
