-- Which requests make an event.
use Rattle.std.proofs.Common.{◌≡◌, ◌≢◌, ℕ, zero, suc, List, [], ◌∷◌, ◌++◌, Bool, MatchBool, true, false, nat_le, length, map, refl, sym, ap, ◌∙◌, inl, inr, arith}
use Rattle.std.proofs.lemmas.Bool.{cases_Bool}
use Rattle.std.proofs.lemmas.List.{append-nil}
use Rattle.isa_table.specs.declared.instruction.AtomicOp.{AtomicOp}
use Rattle.isa_table.specs.declared.instruction.CacheOp.{CacheOp}
use Rattle.hart.specs.declared.need.AccessFault.{AccessFault}
use Rattle.hart.specs.declared.need.Request.{Request}
use Rattle.hart.specs.declared.need.Request.TheVariants as requests
use Rattle.hart.specs.declared.need.Reply.TheVariants.{Value, Done, Fault}
use Rattle.line_memory.specs.declared.TheConstants.{PERSISTENT_BASE}
use Rattle.machine.specs.Replies.{events_of, if_persistent}
use Rattle.store_trace.specs.declared.event.Event.{Event}

-- one event, or none
abbrev pub IsOne : Bool → List Event → Type 0
IsOne made events = MatchBool made (length events ≡ 1) (events ≡ [])

decided : (address : ℕ) (event : Event) → IsOne (nat_le PERSISTENT_BASE address) (if_persistent address event)
decided address event = elim (cases_Bool (nat_le PERSISTENT_BASE address)) [ inl above ↦ rw above refl | inr below ↦ rw below refl ]

pub store_decided : (h address width value : ℕ)
    → IsOne (nat_le PERSISTENT_BASE address) (events_of h (requests.Store address width value) Done)
store_decided h address width value = decided address _

pub clean_decided : (h : ℕ) (op : CacheOp) (address : ℕ) → IsOne (nat_le PERSISTENT_BASE address) (events_of h (requests.Cbo op address) Done)
clean_decided h op address = decided address _

pub taken_decided : (h address width value : ℕ)
    → IsOne (nat_le PERSISTENT_BASE address) (events_of h (requests.Sc address width value) (Value 0))
taken_decided h address width value = decided address _

pub combined_decided : (h : ℕ) (op : AtomicOp) (address width operand old : ℕ)
    → IsOne (nat_le PERSISTENT_BASE address) (events_of h (requests.Amo op address width operand) (Value old))
combined_decided h op address width operand old = decided address _

pub not_taken : (h address width value outcome : ℕ) → outcome ≢ 0 → events_of h (requests.Sc address width value) (Value outcome) ≡ []
not_taken h address width value zero apart = absurd (apart refl)
not_taken h address width value (suc outcome) apart = refl

-- a request that met a fault makes none
pub none_for_fault : (h : ℕ) (request : Request) (fault : AccessFault) → events_of h request (Fault fault) ≡ []
none_for_fault h (requests.Load address width) fault = refl
none_for_fault h (requests.Store address width value) fault = refl
none_for_fault h (requests.Lr address width) fault = refl
none_for_fault h (requests.Sc address width value) fault = refl
none_for_fault h (requests.Amo op address width operand) fault = refl
none_for_fault h (requests.Cbo op address) fault = refl
none_for_fault h requests.Fence fault = refl
none_for_fault h requests.FenceI fault = refl
none_for_fault h (requests.Begin op) fault = refl
none_for_fault h (requests.End op) fault = refl

-- the number of an event, if there is one
pub none_numbered : (made : Bool) (events : List Event) (number : ℕ) (numbers : List ℕ) → made ≡ false → IsOne made events
    → numbers ≡ numbers ++ map (λ (event : Event). number) events
none_numbered true events number numbers not one = absurd (cc)
none_numbered false events number numbers not none =
    sym (append-nil numbers) ∙ ap (λ (l : List Event). numbers ++ map (λ (event : Event). number) l) (sym none)

one_event : (events : List Event) (number : ℕ) → length events ≡ 1 → number ∷ [] ≡ map (λ (event : Event). number) events
one_event [] number one = absurd (omega (arith, one))
one_event (event ∷ []) number one = refl
one_event (event ∷ other ∷ events) number one = absurd (omega (arith, one))

pub one_numbered : (made : Bool) (events : List Event) (number : ℕ) (old new : List ℕ) → made ≡ true → IsOne made events
    → new ≡ old ++ number ∷ [] → new ≡ old ++ map (λ (event : Event). number) events
one_numbered true events number old new is one added = added ∙ ap (λ (l : List ℕ). old ++ l) (one_event events number one)
one_numbered false events number old new is one added = absurd (cc)
