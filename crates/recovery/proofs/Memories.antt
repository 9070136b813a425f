-- Two memories that differ in persistent bytes alone, and what the same history makes of them.
use Rattle.std.proofs.Common.{◌≡◌, ℕ, zero, suc, ◌+◌, ◌-◌, ◌%◌, ◌<◌, ◌≤◌, ◌≢◌, ◌==◌, ◌&&◌, ◌||◌, eqb, List, [], ◌∷◌, Option, Some, None, Bool, true, false, is_some, nat_le, nat_lt, if◌then◌else◌, refl, sym, ap, ◌∙◌, inl, inr, arith, true≢false}
use Rattle.std.proofs.lemmas.Bool.{cases_Bool, cases_lt, le-leb, le-ltb, lt-ltb, and_right}
use Rattle.line_memory.specs.Memory.{IsWidth, Memory, fault_of, loaded_from, stored_to, with_byte}
use Rattle.line_memory.specs.declared.TheConstants.{PERSISTENT_BASE, TEXT_BASE, TEXT_SIZE}
use Rattle.line_memory.proofs.Accesses.{fits_line}
use Rattle.line_memory.proofs.Flat.{aligned_below, loaded_same}
use Rattle.machine.specs.declared.shared_memory.history.Entry.{Entry}
use Rattle.machine.specs.declared.shared_memory.history.Entry.TheVariants.{Asked, Evicted}
use Rattle.machine.specs.Histories.{Write, fetched_text, is_renewal, memory_with, replayed, text_of, written}
use Rattle.machine.specs.Replies.{line_of, offset_of}
use Rattle.recovery.specs.Asking.{asked_at, asked_if, own_bytes, with_written}
use Rattle.std.specs.List.{AllByRecursion}
use Rattle.verdict.proofs.Bytes.{access_has, nothing_has, or_has, without_has}
use Rattle.verdict.specs.Branches.{question}
use Rattle.verdict.specs.Bytes.{access_bytes, has_byte, without}
use Rattle.verdict.specs.declared.branches.question.Question.{Question}

pub record Alike (m o : Memory) : Type 0 where
  pub below : (a : ℕ) → a < PERSISTENT_BASE → o a ≡ m a
  pub there : (a : ℕ) → is_some (o a) ≡ is_some (m a)

-- they have the same byte wherever a question asks for it
abbrev pub AgreeAt : Memory → Memory → Question → Type 0
AgreeAt m o q = (a : ℕ) → PERSISTENT_BASE ≤ a → line_of a ≡ q.line → has_byte q.bytes (offset_of a) ≡ true → o a ≡ m a

-- an aligned access to persistent memory finds the same bytes in both
abbrev pub HasSame : Memory → Memory → ℕ → ℕ → Type 0
HasSame m o address width = PERSISTENT_BASE ≤ address → address % width ≡ 0 → (k : ℕ) → k < width → o (address + k) ≡ m (address + k)

chosen_same : (here : Bool) (new x y : Option ℕ) → y ≡ x → (if here then new else y) ≡ (if here then new else x)
chosen_same true new x y e = refl
chosen_same false new x y e = e

chosen_there : (here : Bool) (new x y : Option ℕ) → is_some y ≡ is_some x → is_some (if here then new else y) ≡ is_some (if here then new else x)
chosen_there true new x y e = refl
chosen_there false new x y e = e

with_same : (m o : Memory) (write : Option Write) (a : ℕ) → o a ≡ m a → memory_with o write a ≡ memory_with m write a
unfolding stored_to
with_same m o None a e = e
with_same m o (Some w) a e = chosen_same (nat_le w.address a && nat_lt a (w.address + w.width)) _ (m a) (o a) e

with_there : (m o : Memory) (write : Option Write) (a : ℕ) → is_some (o a) ≡ is_some (m a) → is_some (memory_with o write a) ≡ is_some (memory_with m write a)
unfolding stored_to
with_there m o None a e = e
with_there m o (Some w) a e = chosen_there (nat_le w.address a && nat_lt a (w.address + w.width)) _ (m a) (o a) e

pub replayed_same : (m o : Memory) (history : List Entry) (a : ℕ) → o a ≡ m a → replayed o history a ≡ replayed m history a
replayed_same m o [] a e = e
replayed_same m o (Asked h request reply ∷ before) a e =
    with_same (replayed m before) (replayed o before) (written request reply) a (replayed_same m o before a e)
replayed_same m o (Evicted line ∷ before) a e = replayed_same m o before a e

pub replayed_there : (m o : Memory) (history : List Entry) (a : ℕ) → is_some (o a) ≡ is_some (m a) → is_some (replayed o history a) ≡ is_some (replayed m history a)
replayed_there m o [] a e = e
replayed_there m o (Asked h request reply ∷ before) a e =
    with_there (replayed m before) (replayed o before) (written request reply) a (replayed_there m o before a e)
replayed_there m o (Evicted line ∷ before) a e = replayed_there m o before a e

pub replayed_alike : (m o : Memory) (history : List Entry) → Alike m o → Alike (replayed m history) (replayed o history)
replayed_alike m o history alike = record {
  below = λ a low. replayed_same m o history a (alike.below a low);
  there = λ a. replayed_there m o history a (alike.there a);
}

-- the texts are the same
text_same : (m o : Memory) → Alike m o → text_of o ≡ text_of m
text_same m o alike =
    let same : (a : ℕ) → text_of o a ≡ text_of m a = λ a.
    elim (cases_lt a (TEXT_BASE + TEXT_SIZE)) [
      | inl low ↦ rw (alike.below a (omega arith)) refl
      | inr high ↦ rw (and_right (nat_le TEXT_BASE a) (nat_lt a (TEXT_BASE + TEXT_SIZE)) (le-ltb a (TEXT_BASE + TEXT_SIZE) high)) refl
    ] in
    λ i a. same a i

renewed : (renews : Bool) (now other older oldest : Memory) → now ≡ other → older ≡ oldest
    → (if renews then now else older) ≡ (if renews then other else oldest)
renewed true now other older oldest a b = a
renewed false now other older oldest a b = b

pub copy_same : (m o : Memory) (h : ℕ) (history : List Entry) → Alike m o → fetched_text o h history ≡ fetched_text m h history
copy_same m o h [] alike = text_same m o alike
copy_same m o h (entry ∷ before) alike = renewed (is_renewal h entry) _ _ _ _
    (text_same (replayed m (entry ∷ before)) (replayed o (entry ∷ before)) (replayed_alike m o (entry ∷ before) alike)) (copy_same m o h before alike)

-- an access has the same fault in both
byte_there : (x y p q : Option ℕ) → is_some y ≡ is_some x → is_some q ≡ is_some p → is_some (with_byte y q) ≡ is_some (with_byte x p)
byte_there None None p q e f = refl
byte_there None (Some y) p q e f = cc
byte_there (Some x) None p q e f = cc
byte_there (Some x) (Some y) None None e f = refl
byte_there (Some x) (Some y) None (Some q) e f = cc
byte_there (Some x) (Some y) (Some p) None e f = cc
byte_there (Some x) (Some y) (Some p) (Some q) e f = refl

pub loaded_there : (m o : Memory) → ((a : ℕ) → is_some (o a) ≡ is_some (m a)) → (a width : ℕ) → is_some (loaded_from o a width) ≡ is_some (loaded_from m a width)
unfolding loaded_from
loaded_there m o there a zero = refl
loaded_there m o there a (suc width) =
    byte_there (m a) (o a) (loaded_from m (suc a) width) (loaded_from o (suc a) width) (there a) (loaded_there m o there (suc a) width)

pub fault_same : (m o : Memory) → Alike m o → (a width : ℕ) → fault_of o a width ≡ fault_of m a width
unfolding fault_of
fault_same m o alike a width = rw (loaded_there m o alike.there a width) refl

-- an aligned access lies in one line
offset_aligned : (a width : ℕ) → IsWidth width → PERSISTENT_BASE ≤ a → a % width ≡ 0 → (a - PERSISTENT_BASE) % width ≡ 0
offset_aligned a width (inl e) h k = rw e (omega arith)
offset_aligned a width (inr (inl e)) h k = let f = rw e at k in rw e (omega arith)
offset_aligned a width (inr (inr (inl e))) h k = let f = rw e at k in rw e (omega arith)
offset_aligned a width (inr (inr (inr e))) h k = let f = rw e at k in rw e (omega arith)

pub fits_its_line : (a width : ℕ) → IsWidth width → PERSISTENT_BASE ≤ a → a % width ≡ 0 → offset_of a + width ≤ 64
fits_its_line a width w high aligned = fits_line (a - PERSISTENT_BASE) width w (offset_aligned a width w high aligned)

-- it finds the same number where it finds the same bytes
pub number_same : (m o : Memory) → Alike m o → (a width : ℕ) → IsWidth width → a % width ≡ 0 → HasSame m o a width → loaded_from o a width ≡ loaded_from m a width
number_same m o alike a width w aligned same = elim (cases_lt a PERSISTENT_BASE) [
  | inl low ↦
      let fits = aligned_below a width w aligned low in
      loaded_same o m a a width (λ k h. alike.below (a + k) (omega arith))
  | inr high ↦ loaded_same o m a a width (λ k h. same (omega (arith, high)) aligned k h)
]

-- what a history has written is the same over any memory
covered : (here : Bool) (new x y : Option ℕ) → here ≡ true → (if here then new else y) ≡ (if here then new else x)
covered here new x y t = rw t refl

written_covers : (w : Write) (a : ℕ) → PERSISTENT_BASE ≤ w.address → PERSISTENT_BASE ≤ a → line_of w.address ≡ line_of a →
    has_byte (access_bytes (offset_of w.address) w.width) (offset_of a) ≡ true → (nat_le w.address a && nat_lt a (w.address + w.width)) ≡ true
written_covers w a low high line has =
    let both : (nat_le (offset_of w.address) (offset_of a) && nat_lt (offset_of a) (offset_of w.address + w.width)) ≡ true =
    sym (access_has w.width (offset_of w.address) (offset_of a)) ∙ has in
    let from : offset_of w.address ≤ offset_of a = grind (arith, both) in
    let upto : offset_of a < offset_of w.address + w.width = grind (arith, both) in
    let one : w.address ≤ a = omega (arith, low, high, line, from) in
    let other : a < w.address + w.width = omega (arith, low, high, line, upto) in
    rw (le-leb w.address a one, lt-ltb a (w.address + w.width) other) refl

with_own : (m o : Memory) (write : Option Write) (a l bytes : ℕ) → PERSISTENT_BASE ≤ a → line_of a ≡ l → (has_byte bytes (offset_of a) ≡ true → o a ≡ m a) →
    has_byte (with_written l write bytes) (offset_of a) ≡ true → memory_with o write a ≡ memory_with m write a
unfolding stored_to
with_own m o None a l bytes high line earlier has = earlier has
with_own m o (Some w) a l bytes high line earlier has = elim (cases_Bool (nat_le PERSISTENT_BASE w.address && (line_of w.address == l))) [
  | inr other ↦ with_same m o (Some w) a (earlier (rw other at has))
  | inl here ↦
      let low : PERSISTENT_BASE ≤ w.address = grind (arith, here) in
      let one : line_of w.address ≡ l = grind (arith, here) in
      let either : (has_byte bytes (offset_of a) || has_byte (access_bytes (offset_of w.address) w.width) (offset_of a)) ≡ true =
      sym (or_has bytes (access_bytes (offset_of w.address) w.width) (offset_of a)) ∙ (rw here at has) in
      elim (cases_Bool (has_byte (access_bytes (offset_of w.address) w.width) (offset_of a))) [
        | inl now ↦ covered (nat_le w.address a && nat_lt a (w.address + w.width)) _ (m a) (o a) (written_covers w a low high (one ∙ sym line) now)
        | inr not_now ↦ with_same m o (Some w) a (earlier (first_of (has_byte bytes (offset_of a)) (rw not_now at either)))
      ]
]
  where
    first_of : (b : Bool) → (b || false) ≡ true → b ≡ true
    first_of true h = refl
    first_of false h = h

pub own_same : (m o : Memory) (history : List Entry) (a l : ℕ) → PERSISTENT_BASE ≤ a → line_of a ≡ l → has_byte (own_bytes history l) (offset_of a) ≡ true →
    replayed o history a ≡ replayed m history a
own_same m o [] a l high line has = absurd (true≢false (sym has ∙ nothing_has (offset_of a)))
own_same m o (Asked h request reply ∷ before) a l high line has =
    with_own (replayed m before) (replayed o before) (written request reply) a l (own_bytes before l) high line
    (λ earlier. own_same m o before a l high line earlier) has
own_same m o (Evicted other ∷ before) a l high line has = own_same m o before a l high line has

-- so the bytes of an access are the same where what it asks is
asks_it : (l bytes : ℕ) (P : Question → Type 0) → bytes ≢ 0 → AllByRecursion P (asked_if l bytes) → P (question l bytes)
asks_it l bytes P some h = let f : eqb bytes 0 ≡ false = grind (arith, some) in (rw f at h).0

pub asked_same : (m o : Memory) (history : List Entry) (address width : ℕ) → IsWidth width → AllByRecursion (AgreeAt m o) (asked_at (own_bytes history) address width) →
    HasSame (replayed m history) (replayed o history) address width
asked_same m o history address width w agree high aligned k less =
    let fits : offset_of address + width ≤ 64 = fits_its_line address width w high aligned in
    let a : ℕ = address + k in
    let l : ℕ = line_of address in
    let above : PERSISTENT_BASE ≤ a = omega (arith, high) in
    let line : line_of a ≡ l = omega (arith, high, fits, less) in
    let place : offset_of a ≡ offset_of address + k = omega (arith, high, fits, less) in
    let access : ℕ = access_bytes (offset_of address) width in
    let own : ℕ = own_bytes history l in
    elim (cases_Bool (has_byte own (offset_of a))) [
      | inl mine ↦ own_same m o history a l above line mine
      | inr other ↦
          let among : has_byte access (offset_of a) ≡ true =
          access_has width (offset_of address) (offset_of a)
          ∙ rw (le-leb (offset_of address) (offset_of a) (omega (arith, place)), lt-ltb (offset_of a) (offset_of address + width) (omega (arith, place, less))) refl in
          let left : has_byte (without access own) (offset_of a) ≡ true = without_has access own (offset_of a) ∙ rw (among, other) refl in
          let some : without access own ≢ 0 = λ z. true≢false (sym left ∙ ap (λ (bytes : ℕ). has_byte bytes (offset_of a)) z ∙ nothing_has (offset_of a)) in
          let questions : AllByRecursion (AgreeAt m o) (asked_if l (without access own)) = rw (le-leb PERSISTENT_BASE address high) at agree in
          replayed_same m o history a (asks_it l (without access own) (AgreeAt m o) some questions a above line left)
    ]
