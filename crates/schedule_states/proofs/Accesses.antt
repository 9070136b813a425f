-- What a request depends on, and what it changes.
use Rattle.std.proofs.Common.{◌≡◌, ◌≢◌, inl, inr, ℕ, zero, suc, ◌+◌, ◌/◌, ◌%◌, ◌<◌, ◌≤◌, ◌==◌, Bool, true, false, Option, Some, None, is_some, arith, refl, sym, ap, ◌∙◌}
use Rattle.std.specs.Prelude.{IfSome, if◌then◌else◌}
use Rattle.std.proofs.lemmas.Bool.{cases_eq, cases_lt}
use Rattle.line_memory.proofs.Accesses.{fault_misaligned, fits_line, stored_to_above, stored_to_below}
use Rattle.line_memory.specs.Memory.{IsWidth, Memory, fault_of, loaded_from, stored_to, with_byte}
use Rattle.line_memory.specs.declared.MemFault.{MemFault}
use Rattle.line_memory.specs.declared.MemFault.TheVariants.{Misaligned, Outside}
use Rattle.isa_table.specs.declared.instruction.AtomicOp.{AtomicOp}
use Rattle.hart.specs.Requests.{IsAtomicWidth, IsRequest}
use Rattle.hart.specs.declared.need.Request.{Request}
use Rattle.hart.specs.declared.need.Request.TheVariants.{Load, Store, Lr, Sc, Amo, Cbo, Fence, FenceI, Begin, End}
use Rattle.schedule_states.specs.Claims.{Touches}
use Rattle.machine.specs.Histories.{Write, memory_with, written}
use Rattle.machine.specs.Replies.{done_unless, outcome_unless, replied, value_unless}

loaded_same : (m n : Memory) (a w : ℕ) → ((k : ℕ) → k < w → m (a + k) ≡ n (a + k)) → loaded_from m a w ≡ loaded_from n a w
unfolding loaded_from
loaded_same m n a zero same = refl
loaded_same m n a (suc w) same =
    let here : a + 0 ≡ a = omega arith in
    let first : m a ≡ n a = rw here at (same 0 (omega arith)) in
    let rest : loaded_from m (suc a) w ≡ loaded_from n (suc a) w = loaded_same m n (suc a) w (λ k less.
    let next : a + suc k ≡ suc a + k = omega arith in
    rw next at (same (suc k) (omega (arith, less)))) in
    ap (λ (o : Option ℕ). with_byte o (loaded_from m (suc a) w)) first ∙ ap (λ (o : Option ℕ). with_byte (n a) o) rest

in_line : (a w k : ℕ) → IsWidth w → a % w ≡ 0 → k < w → (a + k) / 64 ≡ a / 64
in_line a w k is aligned less =
    let fits : a % 64 + w ≤ 64 = fits_line a w is aligned in
    omega (arith, fits, less)

fault_same : (m n : Memory) (a w : ℕ) → loaded_from m a w ≡ loaded_from n a w → fault_of m a w ≡ fault_of n a w
unfolding fault_of
fault_same m n a w same = ap (λ (o : Option ℕ). if a % w == 0 then (if is_some o then None else Some Outside) else Some Misaligned) same

-- an access depends on its line alone
pub access_same : (m n : Memory) (a w : ℕ) → IsWidth w → ((b : ℕ) → b / 64 ≡ a / 64 → m b ≡ n b) →
    (fault_of m a w ≡ fault_of n a w) × (value_unless (fault_of m a w) (loaded_from m a w) ≡ value_unless (fault_of n a w) (loaded_from n a w))
access_same m n a w is same = elim (cases_eq (a % w) 0) [
  | inl aligned ↦
      let loads : loaded_from m a w ≡ loaded_from n a w = loaded_same m n a w (λ k less. same (a + k) (in_line a w k is aligned less)) in
      let faults : fault_of m a w ≡ fault_of n a w = fault_same m n a w loads in
      (faults, ap (λ (f : Option MemFault). value_unless f (loaded_from m a w)) faults ∙ ap (λ (o : Option ℕ). value_unless (fault_of n a w) o) loads)
  | inr misaligned ↦
      let one : fault_of m a w ≡ Some Misaligned = fault_misaligned m a w misaligned in
      let other : fault_of n a w ≡ Some Misaligned = fault_misaligned n a w misaligned in
      (one ∙ sym other, rw (one, other) refl)
]

pub any_width : (w : ℕ) → IsAtomicWidth w → IsWidth w
any_width w (inl four) = inr (inr (inl four))
any_width w (inr eight) = inr (inr (inr eight))

-- whether the reply looks at the reservation of line l
abbrev pub AsksReserved : Request → ℕ → Type 0
AsksReserved (Sc address width value) l = l ≡ address / 64
AsksReserved request l = ⊥

-- so does the reply to a request
pub reply_same : (m n : Memory) (r s : ℕ → Bool) (q : Request) → IsRequest q → ((b : ℕ) → Touches q (b / 64) → m b ≡ n b) →
    ((l : ℕ) → AsksReserved q l → r l ≡ s l) → replied m r q ≡ replied n s q
reply_same m n r s (Load a w) is same reserved = (access_same m n a w is same).1
reply_same m n r s (Store a w v) is same reserved = ap (λ (f : Option MemFault). done_unless f) (access_same m n a w is same).0
reply_same m n r s (Lr a w) is same reserved = (access_same m n a w (any_width w is) same).1
reply_same m n r s (Sc a w v) is same reserved =
    ap (λ (f : Option MemFault). outcome_unless f (r (a / 64))) (access_same m n a w (any_width w is) same).0
    ∙ ap (λ (b : Bool). outcome_unless (fault_of n a w) b) (reserved (a / 64) refl)
reply_same m n r s (Amo op a w v) is same reserved = (access_same m n a w (any_width w is.0) same).1
reply_same m n r s (Cbo op a) is same reserved = ap (λ (o : Option ℕ). replied (λ b. o) r (Cbo op a)) (same a refl)
reply_same m n r s Fence is same reserved = refl
reply_same m n r s FenceI is same reserved = refl
reply_same m n r s (Begin op) is same reserved = refl
reply_same m n r s (End op) is same reserved = refl

-- a write lies in line l
pub record IsWriteIn (l : ℕ) (w : Write) : Type 0 where
  pub line : w.address / 64 ≡ l
  pub fits : w.address % 64 + w.width ≤ 64

aligned_of : (m : Memory) (a w : ℕ) → fault_of m a w ≡ None → a % w ≡ 0
aligned_of m a w none = elim (cases_eq (a % w) 0) [
  | inl aligned ↦ aligned
  | inr misaligned ↦ let both : None ≡ Some Misaligned = sym none ∙ fault_misaligned m a w misaligned in absurd cc
]

write_fits : (m : Memory) (a w v : ℕ) → IsWidth w → fault_of m a w ≡ None → IsWriteIn (a / 64) (record { address = a; width = w; value = v })
write_fits m a w v is none = record { line = refl; fits = fits_line a w is (aligned_of m a w none) }

store_within : (m : Memory) (a w v : ℕ) (fault : Option MemFault) → IsWidth w → fault_of m a w ≡ fault → IfSome (written (Store a w v) (done_unless fault)) (IsWriteIn (a / 64))
store_within m a w v None is none = write_fits m a w v is none
store_within m a w v (Some f) is fault = tt

sc_within : (m : Memory) (a w v : ℕ) (fault : Option MemFault) (b : Bool) → IsWidth w → fault_of m a w ≡ fault → IfSome (written (Sc a w v) (outcome_unless fault b)) (IsWriteIn (a / 64))
sc_within m a w v None true is none = write_fits m a w v is none
sc_within m a w v None false is none = tt
sc_within m a w v (Some f) b is fault = tt

amo_within : (m : Memory) (op : AtomicOp) (a w v : ℕ) (fault : Option MemFault) (found : Option ℕ) → IsWidth w → fault_of m a w ≡ fault →
    IfSome (written (Amo op a w v) (value_unless fault found)) (IsWriteIn (a / 64))
amo_within m op a w v None (Some old) is none = record { line = refl; fits = fits_line a w is (aligned_of m a w none) }
amo_within m op a w v None None is none = tt
amo_within m op a w v (Some f) found is fault = tt

some_in : (o : Option Write) (q : Request) (l : ℕ) → Touches q l → IfSome o (IsWriteIn l) → IfSome o (λ w. (k : ℕ) × Touches q k × IsWriteIn k w)
some_in None q l touches is = tt
some_in (Some w) q l touches is = (l, touches, is)

-- what a request writes lies in a line that it touches
pub writes_within : (m : Memory) (r : ℕ → Bool) (q : Request) → IsRequest q → IfSome (written q (replied m r q)) (λ w. (l : ℕ) × Touches q l × IsWriteIn l w)
writes_within m r (Load a w) is = tt
writes_within m r (Store a w v) is = some_in (written (Store a w v) (done_unless (fault_of m a w))) (Store a w v) (a / 64) refl (store_within m a w v (fault_of m a w) is refl)
writes_within m r (Lr a w) is = tt
writes_within m r (Sc a w v) is = some_in (written (Sc a w v) (outcome_unless (fault_of m a w) (r (a / 64)))) (Sc a w v) (a / 64) refl
    (sc_within m a w v (fault_of m a w) (r (a / 64)) (any_width w is) refl)
writes_within m r (Amo op a w v) is = some_in (written (Amo op a w v) (value_unless (fault_of m a w) (loaded_from m a w))) (Amo op a w v) (a / 64) refl
    (amo_within m op a w v (fault_of m a w) (loaded_from m a w) (any_width w is.0) refl)
writes_within m r (Cbo op a) is = tt
writes_within m r Fence is = tt
writes_within m r FenceI is = tt
writes_within m r (Begin op) is = tt
writes_within m r (End op) is = tt

-- a write leaves other lines
pub stored_elsewhere : (m : Memory) (l : ℕ) (w : Write) (b : ℕ) → IsWriteIn l w → b / 64 ≢ l → stored_to m w.address w.width w.value b ≡ m b
stored_elsewhere m l w b is other = elim (cases_lt b w.address) [
  | inl below ↦ stored_to_below m w.address w.width w.value b below
  | inr from ↦ elim (cases_lt b (w.address + w.width)) [
    | inl within ↦ absurd (other (omega (arith, from, within, is.line, is.fits)))
    | inr above ↦ stored_to_above m w.address w.width w.value b above
  ]
]

pub stored_alike : (m n : Memory) (a w v b : ℕ) → m b ≡ n b → stored_to m a w v b ≡ stored_to n a w v b
unfolding stored_to
stored_alike m n a w v b same = ap (λ (o : Option ℕ). stored_to (λ c. o) a w v b) same

-- writes in other lines commute
writes_commute : (m : Memory) (l k : ℕ) (x y : Write) (b : ℕ) → IsWriteIn l x → IsWriteIn k y → l ≢ k →
    memory_with (memory_with m (Some x)) (Some y) b ≡ memory_with (memory_with m (Some y)) (Some x) b
writes_commute m l k x y b is other apart = elim (cases_eq (b / 64) l) [
  | inl here ↦
      let not_there : b / 64 ≢ k = λ e. apart (sym here ∙ e) in
      stored_elsewhere (memory_with m (Some x)) k y b other not_there
      ∙ stored_alike m (memory_with m (Some y)) x.address x.width x.value b (sym (stored_elsewhere m k y b other not_there))
  | inr not_here ↦
      stored_alike (memory_with m (Some x)) m y.address y.width y.value b (stored_elsewhere m l x b is not_here)
      ∙ sym (stored_elsewhere (memory_with m (Some y)) l x b is not_here)
]

pub memory_commutes : (m : Memory) (l : ℕ) (x y : Option Write) (b : ℕ) → IfSome x (IsWriteIn l) → IfSome y (λ w. (k : ℕ) × (l ≢ k) × IsWriteIn k w) →
    memory_with (memory_with m x) y b ≡ memory_with (memory_with m y) x b
memory_commutes m l None y b one other = refl
memory_commutes m l (Some x) None b one other = refl
memory_commutes m l (Some x) (Some y) b one other = writes_commute m l other.0 x y b one other.2 other.1

pub memory_elsewhere : (m : Memory) (y : Option Write) (b : ℕ) → IfSome y (λ w. (k : ℕ) × (b / 64 ≢ k) × IsWriteIn k w) → memory_with m y b ≡ m b
memory_elsewhere m None b other = refl
memory_elsewhere m (Some y) b other = stored_elsewhere m other.0 y b other.2 other.1
